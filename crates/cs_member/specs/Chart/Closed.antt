-- Closed charts, as sets: what stands at each position, and what follows from it. Only items that await a nonterminal that may
-- come, or the token behind their position, are kept, and only with origins before their position; the others are fronts of
-- expected rules.
use Rattle.std.specs.Prelude.{◌≡◌, ℕ, ◌+◌, List, Some, slice_get}
use Rattle.cs_grammar.specs.declared.symbol.Symbol.TheVariants.{Token, Nonterminal}
use Rattle.cs_grammar.specs.Grammar.{PlainGrammar}
use Rattle.cs_member.specs.declared.tables.item.Item.{Item}
use Rattle.cs_member.specs.Tables.Item.{Awaits, IsDone, IsFront, IsEmpty, MayCome, over}

-- a chart as sets: the item stands at a position with an origin; the nonterminal's rules may begin at a position; a tree of the
-- nonterminal ends at a position and begins at another
pub record Sets : Type 1 where
  pub Stands : ℕ → Item → ℕ → Type 0
  pub Expected : ℕ → ℕ → Type 0
  pub Spans : ℕ → ℕ → ℕ → Type 0

-- what is kept where an item is found at a position i with an origin j
pub record IsMet (g : PlainGrammar) (tokens : List ℕ) (c : Sets) (i : ℕ) (x : Item) (j : ℕ) : Type 0 where
  pub token : (t : ℕ) → Awaits g x (Token t) → slice_get tokens i ≡ Some t → c.Stands i x j
  pub nonterminal : (a : ℕ) → Awaits g x (Nonterminal a) → MayCome g (slice_get tokens i) a → c.Stands i x j
  pub done : (a : ℕ) → IsDone g x a → c.Spans i a j

-- each step from what stands in the chart leads to what stands there
pub record IsClosed (g : PlainGrammar) (tokens : List ℕ) (c : Sets) : Type 0 where
  -- an item with a token, or with an empty tree, or with a span behind it
  pub scanned : (i j t : ℕ) (x : Item) → c.Stands i x j → Awaits g x (Token t) → slice_get tokens i ≡ Some t → IsMet g tokens c (i + 1) (over x) j
  pub passed : (i j a : ℕ) (x : Item) → c.Stands i x j → Awaits g x (Nonterminal a) → IsEmpty g a → IsMet g tokens c i (over x) j
  pub completed : (i k j a : ℕ) (x : Item) → c.Stands k x j → Awaits g x (Nonterminal a) → c.Spans i a k → IsMet g tokens c i (over x) j
  -- the same with the front of a rule that may begin at k
  pub scanned_first : (k a t : ℕ) (x : Item) → c.Expected k a → IsFront g a x → Awaits g x (Token t) → slice_get tokens k ≡ Some t → IsMet g tokens c (k + 1) (over x) k
  pub completed_first : (i k a b : ℕ) (x : Item) → c.Expected k a → IsFront g a x → Awaits g x (Nonterminal b) → c.Spans i b k → IsMet g tokens c i (over x) k
  -- which rules may begin
  pub started : c.Expected 0 g.start
  pub expected : (i j a : ℕ) (x : Item) → c.Stands i x j → Awaits g x (Nonterminal a) → c.Expected i a
  pub descended : (i a b : ℕ) (x : Item) → c.Expected i a → IsFront g a x → Awaits g x (Nonterminal b) → c.Expected i b
