-- What is entered of the fronts of a grammar's rules.
use Rattle.std.specs.Prelude.{◌≡◌, ◌≤◌, ◌<◌, ◌+◌, ℕ, length}
use Rattle.cs_grammar.specs.declared.symbol.Symbol.{Symbol}
use Rattle.cs_grammar.specs.declared.symbol.Symbol.TheVariants.{Token, Nonterminal}
use Rattle.cs_grammar.specs.Grammar.{PlainGrammar}
use Rattle.cs_member.specs.declared.tables.item.Item.{Item}
use Rattle.cs_member.specs.declared.tables.fronts.Front.{Front}
use Rattle.cs_member.specs.declared.tables.fronts.Fronts.{Fronts}
use Rattle.cs_member.specs.Tables.Adding.{HasAt, IsAdded}
use Rattle.cs_member.specs.Tables.Item.{Awaits, IsFront, over}

-- the entry of an item in a rule of this left side
abbrev pub entry : ℕ → Item → Front
entry left x = record { left = left; item = over x }

-- there is a list for the symbol
abbrev pub CanEnter : Symbol → Fronts → Type 0
CanEnter (Token t) fronts = t < length fronts.tokens.items
CanEnter (Nonterminal b) fronts = b < length fronts.nonterminals.items

-- the item, behind which the symbol stands, is entered
abbrev pub Enters : ℕ → Item → Symbol → Fronts → Fronts → Type 0
Enters left x (Token t) old new =
    IsAdded t (entry left x) old.tokens.items new.tokens.items × (new.nonterminals ≡ old.nonterminals) × (new.corners ≡ old.corners)
Enters left x (Nonterminal b) old new =
    (new.tokens ≡ old.tokens) × IsAdded b (entry left x) old.nonterminals.items new.nonterminals.items
    × IsAdded left b old.corners.items new.corners.items

-- a front that begins with the symbol
abbrev pub IsEntry : PlainGrammar → Symbol → Front → Type 0
IsEntry g s f = (x : Item) × IsFront g f.left x × Awaits g x s × (f.item ≡ over x)

-- of the fronts of these items each is entered, and no others
pub record AreEntered (g : PlainGrammar) (These : Item → Type 0) (fronts : Fronts) : Type 0 where
  pub tokens_size : length fronts.tokens.items ≡ g.tokens + 1
  pub nonterminals_size : length fronts.nonterminals.items ≡ g.nonterminals + 1
  pub corners_size : length fronts.corners.items ≡ g.nonterminals + 1
  pub are_tokens : (t : ℕ) (f : Front) → HasAt fronts.tokens.items t f → IsEntry g (Token t) f
  pub are_nonterminals : (b : ℕ) (f : Front) → HasAt fronts.nonterminals.items b f → IsEntry g (Nonterminal b) f
  pub are_corners : (a b : ℕ) → HasAt fronts.corners.items a b → b ≤ g.nonterminals
  pub tokens : (a t : ℕ) (x : Item) → These x → IsFront g a x → Awaits g x (Token t) → HasAt fronts.tokens.items t (entry a x)
  pub nonterminals : (a b : ℕ) (x : Item) → These x → IsFront g a x → Awaits g x (Nonterminal b) → HasAt fronts.nonterminals.items b (entry a x)
  pub corners : (a b : ℕ) (x : Item) → These x → IsFront g a x → Awaits g x (Nonterminal b) → HasAt fronts.corners.items a b
