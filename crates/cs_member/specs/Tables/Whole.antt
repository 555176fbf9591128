-- The tables of a grammar: all that they have is so, and all that is so is in them.
use Rattle.std.specs.Prelude.{◌≡◌, ◌+◌, ℕ, List, Some, Contains, slice_get}
use Rattle.std.specs.Global.{Vec}
use Rattle.cs_grammar.specs.declared.symbol.Symbol.TheVariants.{Token, Nonterminal}
use Rattle.cs_grammar.specs.Grammar.{PlainGrammar}
use Rattle.cs_member.specs.declared.tables.fronts.Front.{Front}
use Rattle.cs_member.specs.declared.tables.item.Item.{Item}
use Rattle.cs_member.specs.declared.tables.tables.Tables.{Tables}
use Rattle.cs_member.specs.Tables.Item.{Awaits, IsFront, over}
use Rattle.cs_member.specs.Tables.Expecting.{AreCorners, AreDescents}
use Rattle.cs_member.specs.Tables.Tables.{IsQuestion}

-- each front of a rule is in the tables
pub record AreWhole (g : PlainGrammar) (tables : Tables) : Type 0 where
  pub tokens : (a t : ℕ) (x : Item) (list : Vec Front) → IsFront g a x → Awaits g x (Token t) → slice_get tables.tokens.items t ≡ Some list
      → (f : Front) × Contains list.items f × (f.left ≡ a) × (f.item ≡ over x)
  pub nonterminals : (a b : ℕ) (x : Item) (list : Vec Front) → IsFront g a x → Awaits g x (Nonterminal b) → slice_get tables.nonterminals.items b ≡ Some list
      → (f : Front) × Contains list.items f × (f.left ≡ a) × (f.item ≡ over x)
  pub corners : (a b : ℕ) (x : Item) (list : Vec ℕ) → IsFront g a x → Awaits g x (Nonterminal b) → slice_get tables.corners.items a ≡ Some list → Contains list.items b

-- the tables of this grammar
pub record IsTables (g : PlainGrammar) (tables : Tables) : Type 0 where
  pub question : IsQuestion g tables
  pub corners : AreCorners (g.nonterminals + 1) tables.corners.items
  pub descents : AreDescents (g.nonterminals + 1) tables.corners.items tables.descents.items
  pub whole : AreWhole g tables
