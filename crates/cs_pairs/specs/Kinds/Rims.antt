-- Rims: the nodes between the root of a tree and the token at a side of its yield. Each leads from one of its children, which has
-- the token at that side itself, to its rule's left side.
use Rattle.std.specs.Prelude.{◌≡◌, ℕ, ◌+◌, ◌≤◌, List, length}
use Rattle.cs_grammar.specs.declared.symbol.Symbol.{Symbol}
use Rattle.cs_grammar.specs.Grammar.{PlainGrammar}
use Rattle.cs_grammar.specs.Places.{IsEarlier, SymbolAt}
use Rattle.cs_grammar.specs.Weights.{Measure}
use Rattle.cs_grammar.specs.Tree.{Forest}
use Rattle.cs_least.specs.declared.cost.cost.Cost.{Cost}
use Rattle.cs_least.specs.Cost.Least.{IsCost}
use Rattle.cs_least.specs.Cost.Rank.{rank}
use Rattle.cs_least.specs.Embed.Embeds.{siblings_size}
use Rattle.cs_least.specs.Embed.Ways.{at_rule, at_place}
use Rattle.cs_least.specs.declared.ways.step.Step.{Step}
use Rattle.cs_least.specs.Ways.Placed.{ArePlaced}
use Rattle.cs_pairs.specs.declared.kinds.side.Side.{Side}
use Rattle.cs_least.specs.declared.embed.inwards.RulePlace.{RulePlace}
use Rattle.cs_pairs.specs.Kinds.Kinds.{AreTreesOfKind}
use Rattle.cs_pairs.specs.Kinds.Numbers.{symbol_number}
use Rattle.cs_pairs.specs.Kinds.Sides.{before_on, behind_on}

-- the trees beside a child that has the token at the side itself; their node is counted with them
abbrev pub AreBeside : PlainGrammar → Side → List Symbol → List Symbol → Forest × Forest → Type 0
AreBeside g side xs ys fs = AreTreesOfKind g (before_on side) xs fs.0 × AreTreesOfKind g (behind_on side) ys fs.1

-- what the least of them cost
abbrev pub IsBesideCost : Measure → PlainGrammar → Side → List Symbol → List Symbol → Cost → Type 0
IsBesideCost w g side xs ys cost = IsCost w.limit (AreBeside g side xs ys) (siblings_size w) cost

-- the step leads from the symbol at this place of a rule to its left side, and costs what stands beside the symbol
pub record IsRim (w : Measure) (g : PlainGrammar) (side : Side) (a : RulePlace) (s : Step) : Type 0 where
  pub here : SymbolAt g a.rule a.place
  pub from : s.from ≡ symbol_number g.tokens here.symbol
  pub to : s.to ≡ g.tokens + here.production.left
  pub others : Cost
  pub is_others : IsBesideCost w g side here.before here.behind others
  pub cost : s.cost ≡ rank w.limit others
  pub low : rank w.limit others ≤ w.limit + 1

-- trees can stand beside the symbol at this place of a rule
pub record HasBeside (g : PlainGrammar) (side : Side) (r k : ℕ) : Type 0 where
  pub here : SymbolAt g r k
  pub beside : Forest × Forest
  pub are : AreBeside g side here.before here.behind beside

-- the lists have, in order, the places and the steps up to a place of a rule, but those beside which no trees can stand
abbrev pub AreRimsTo : Measure → PlainGrammar → Side → ℕ → ℕ → List RulePlace → List Step → Type 0
AreRimsTo w g side q j places steps = ArePlaced at_rule at_place (IsRim w g side) (HasBeside g side) (λ r k. IsEarlier r k q j) places steps

-- all of a grammar
abbrev pub AreRims : Measure → PlainGrammar → Side → List RulePlace → List Step → Type 0
AreRims w g side places steps = AreRimsTo w g side (length g.rules + 1) 0 places steps
