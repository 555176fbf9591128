-- The steps of one side as a net of ways, and the rows that come from it.
use Rattle.std.specs.Prelude.{◌≡◌, ℕ, ◌+◌, List}
use Rattle.cs_grammar.specs.Weights.{Weighed}
use Rattle.cs_least.specs.declared.cost.cost.Cost.{Cost}
use Rattle.cs_least.specs.Ways.Ways as ways
use Rattle.cs_least.specs.Ways.Turned.{turned}
use Rattle.cs_pairs.specs.declared.kinds.nets.Net.{Net}
use Rattle.cs_least.specs.declared.embed.inwards.RulePlace.{RulePlace}
use Rattle.cs_pairs.specs.declared.kinds.side.Side.{Side}
use Rattle.cs_pairs.specs.declared.kinds.side.Side.TheVariants.{Last}
use Rattle.cs_pairs.specs.Kinds.Sides.{kind_on}
use Rattle.cs_pairs.specs.Kinds.Rims.{AreRims}
use Rattle.cs_pairs.specs.Kinds.Tables.{AreCosts, AreCostRows}

-- all steps of the side, between all symbols of the grammar
pub record IsNetOf (v : Weighed) (net : Net) : Type 0 where
  pub nodes : net.steps.nodes ≡ v.grammar.tokens + v.grammar.nonterminals
  pub places : List RulePlace
  pub rims : AreRims v.weights v.grammar net.side places net.steps.steps

-- the row of the trees that have this token at the side
abbrev pub IsRowOn : Weighed → Side → ℕ → List Cost → Type 0
IsRowOn v side token row = AreCosts v.weights v.grammar (kind_on side token) row

-- a row for each token that may stand at the side
abbrev pub AreRowsOn : Weighed → Side → List (List Cost) → Type 0
AreRowsOn v side rows = AreCostRows v.weights v.grammar (kind_on side) v.grammar.tokens rows

-- the steps to the last token of a yield, turned round: from the nodes inwards
pub record AreStepsToEnds (v : Weighed) (inwards : ways.Net) : Type 0 where
  pub places : List RulePlace
  pub ends : ways.Net
  pub nodes : ends.nodes ≡ v.grammar.tokens + v.grammar.nonterminals
  pub rims : AreRims v.weights v.grammar Last places ends.steps
  pub is_turned : inwards ≡ turned ends
