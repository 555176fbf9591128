-- Items, and what stands behind their places.
use Rattle.std.specs.Prelude.{◌≡◌, ℕ, ◌≤◌, ◌<◌, ◌+◌, ◌⊎◌, [], Option, None, Some, length, slice_get}
use Rattle.cs_grammar.specs.declared.symbol.Symbol.{Symbol}
use Rattle.cs_grammar.specs.declared.symbol.Symbol.TheVariants.{Nonterminal}
use Rattle.cs_grammar.specs.Grammar.{Production, PlainGrammar, IsRule}
use Rattle.cs_grammar.specs.Tree.{Tree, IsTree, yield}
use Rattle.cs_member.specs.declared.tables.item.Item.{Item}
use Rattle.cs_member.specs.declared.tables.item.Next.{Next}
use Rattle.cs_member.specs.declared.tables.item.Next.TheVariants.{Awaited, Done}

-- an item of the grammar: a rule and a place in it
pub record IsItem (g : PlainGrammar) (x : Item) : Type 0 where
  pub rule : Production
  pub number : IsRule g x.rule rule
  pub within : x.place ≤ length rule.right

-- the symbol behind the place
pub record Awaits (g : PlainGrammar) (x : Item) (s : Symbol) : Type 0 where
  pub rule : Production
  pub number : IsRule g x.rule rule
  pub at : slice_get rule.right x.place ≡ Some s

-- nothing stands behind the place in a rule of this left side
pub record IsDone (g : PlainGrammar) (x : Item) (a : ℕ) : Type 0 where
  pub rule : Production
  pub number : IsRule g x.rule rule
  pub left : rule.left ≡ a
  pub whole : x.place ≡ length rule.right

abbrev pub IsNext : PlainGrammar → Item → Next → Type 0
IsNext g x (Awaited s) = Awaits g x s
IsNext g x (Done a) = IsDone g x a

-- the item with the next symbol taken
abbrev pub over : Item → Item
over x = record { rule = x.rule; place = x.place + 1 }

-- some tree of the nonterminal has an empty yield
abbrev pub IsEmpty : PlainGrammar → ℕ → Type 0
IsEmpty g a = (t : Tree) × IsTree g (Nonterminal a) t × (yield t ≡ [])

-- the nonterminal has an empty tree, or a token comes with which another may begin
abbrev pub MayCome : PlainGrammar → Option ℕ → ℕ → Type 0
MayCome g ahead a = IsEmpty g a ⊎ ((t : ℕ) × (ahead ≡ Some t))

-- neither
abbrev pub NeverComes : PlainGrammar → Option ℕ → ℕ → Type 0
NeverComes g ahead a = (ahead ≡ None) × (IsEmpty g a → ⊥)

-- an item of a rule of this left side; each symbol before its place has a tree with an empty yield
pub record IsFront (g : PlainGrammar) (a : ℕ) (x : Item) : Type 0 where
  pub rule : Production
  pub number : IsRule g x.rule rule
  pub left : rule.left ≡ a
  pub within : x.place ≤ length rule.right
  pub bare : (k : ℕ) → k < x.place → (b : ℕ) × (slice_get rule.right k ≡ Some (Nonterminal b)) × IsEmpty g b
