-- The rows of all kinds.
use Rattle.std.specs.Prelude.{◌≡◌, ℕ, zero, suc, List, [], length, slice_index_or}
use Rattle.cs_grammar.specs.declared.symbol.Symbol.TheVariants.{Nonterminal}
use Rattle.cs_grammar.specs.Grammar.{PlainGrammar, IsNumberOf}
use Rattle.cs_grammar.specs.Weights.{Measure, Weighs}
use Rattle.cs_grammar.specs.Tree.{size}
use Rattle.cs_least.specs.declared.cost.cost.Cost.{Cost}
use Rattle.cs_least.specs.Cost.Least.{IsCost}
use Rattle.cs_least.specs.Cost.Rank.{entry}
use Rattle.cs_pairs.specs.declared.kinds.kind.TreeKind.{TreeKind}
use Rattle.cs_pairs.specs.declared.kinds.kind.TreeKind.TheVariants.{Any, Empty, Begins, Ends}
use Rattle.cs_pairs.specs.declared.kinds.side.Side.TheVariants.{First, Last}
use Rattle.cs_pairs.specs.Kinds.Kinds.{IsTreeOfKind}
use Rattle.cs_pairs.specs.Kinds.Sides.{kind_on}

-- the row of any trees, that of empty yields, and one for each token that a yield begins or ends with
pub record Tables : Type 0 where
  pub any : List Cost
  pub empty : List Cost
  pub begins : List (List Cost)
  pub ends : List (List Cost)

-- the row of a number from 1
abbrev pub row_in : List (List Cost) → ℕ → List Cost
row_in rows zero = []
row_in rows (suc n) = slice_index_or rows n []

abbrev pub row_of : Tables → TreeKind → List Cost
row_of t Any = t.any
row_of t Empty = t.empty
row_of t (Begins b) = row_in t.begins b
row_of t (Ends a) = row_in t.ends a

-- a row that says what the least tree of each nonterminal costs that is of the kind
pub record AreCosts (w : Measure) (g : PlainGrammar) (k : TreeKind) (row : List Cost) : Type 0 where
  pub many : length row ≡ g.nonterminals
  pub exact : (n : ℕ) → IsCost w.limit (IsTreeOfKind g k (Nonterminal n)) (size w) (entry row n)

-- such rows for the first so many tokens
pub record AreCostRows (w : Measure) (g : PlainGrammar) (kind : ℕ → TreeKind) (count : ℕ) (rows : List (List Cost)) : Type 0 where
  pub many : length rows ≡ count
  pub each : (n : ℕ) → IsNumberOf count n → AreCosts w g (kind n) (row_in rows n)

-- the tables of a grammar
pub record AreKindTables (w : Measure) (g : PlainGrammar) (t : Tables) : Type 0 where
  pub weighs : Weighs w g
  pub any_costs : AreCosts w g Any t.any
  pub empty_costs : AreCosts w g Empty t.empty
  pub begins_costs : AreCostRows w g (kind_on First) g.tokens t.begins
  pub ends_costs : AreCostRows w g (kind_on Last) g.tokens t.ends
