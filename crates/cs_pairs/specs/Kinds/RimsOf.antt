-- Rims, as the code has them.
use Rattle.std.specs.Prelude.{◌≡◌, ℕ, ◌+◌, ◌≤◌, List, Option, Some, None, length}
use Rattle.std.specs.Global.{Vec}
use Rattle.cs_grammar.specs.declared.symbol.Symbol.{Symbol}
use Rattle.cs_grammar.specs.Weights.{Weighed}
use Rattle.cs_least.specs.declared.cost.cost.Cost.{Cost}
use Rattle.cs_least.specs.declared.cost.cost.Cost.TheVariants.{Never}
use Rattle.cs_least.specs.Cost.Rank.{rank}
use Rattle.cs_least.specs.declared.embed.inwards.RulePlace.{RulePlace}
use Rattle.cs_least.specs.declared.ways.step.Step.{Step}
use Rattle.cs_pairs.specs.declared.kinds.side.Side.{Side}
use Rattle.cs_pairs.specs.Kinds.Rims.{IsBesideCost, AreRimsTo}

abbrev pub IsBesideCostOf : Weighed → Side → List Symbol → List Symbol → Cost → Type 0
IsBesideCostOf v side xs ys cost = IsBesideCost v.weights v.grammar side xs ys cost

-- a cost as that of a step: a size, or one more than the limit; none where there is no cost
abbrev pub IsStepCost : ℕ → Cost → Option ℕ → Type 0
IsStepCost limit cost None = cost ≡ Never
IsStepCost limit cost (Some c) = (c ≡ rank limit cost) × (rank limit cost ≤ limit + 1)

-- the steps up to a place of a rule
abbrev pub AreStepsTo : Weighed → Side → ℕ → ℕ → Vec Step → Type 0
AreStepsTo v side q j steps = (places : List RulePlace) × AreRimsTo v.weights v.grammar side q j places steps.items

-- the steps of the rules before this number, and all of a grammar
abbrev pub AreRimsUpTo : Weighed → Side → ℕ → Vec Step → Type 0
AreRimsUpTo v side r steps = AreStepsTo v side r 0 steps

abbrev pub AreRimsOf : Weighed → Side → Vec Step → Type 0
AreRimsOf v side steps = AreRimsUpTo v side (length v.grammar.rules + 1) steps
