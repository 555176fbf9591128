-- Contexts as ways between nonterminals: each node around the hole is a step from its left side inwards, to the nonterminal at
-- the hole's place, and costs what the node and its other children do.
use Rattle.std.specs.Prelude.{◌≡◌, ℕ, ◌+◌, ◌≤◌, List, [], ◌∷◌, Option, Some, None, length}
use Rattle.cs_grammar.specs.declared.symbol.Symbol.{Symbol}
use Rattle.cs_grammar.specs.declared.symbol.Symbol.TheVariants.{Token, Nonterminal}
use Rattle.cs_grammar.specs.Grammar.{PlainGrammar}
use Rattle.cs_grammar.specs.Places.{IsEarlier, SymbolAt}
use Rattle.cs_grammar.specs.Weights.{Measure}
use Rattle.cs_grammar.specs.Tree.{Forest}
use Rattle.cs_least.specs.declared.cost.cost.Cost.{Cost}
use Rattle.cs_least.specs.declared.cost.cost.Cost.TheVariants as cost
use Rattle.cs_least.specs.Cost.Least.{IsCost}
use Rattle.cs_least.specs.Cost.Rank.{rank, cost_of, plus}
use Rattle.cs_least.specs.declared.embed.inwards.RulePlace.{RulePlace}
use Rattle.cs_least.specs.Embed.Embeds.{AreSiblings, siblings_size}
use Rattle.cs_least.specs.declared.ways.step.Step.{Step}
use Rattle.cs_least.specs.declared.ways.step.Source.{Source}
use Rattle.cs_least.specs.declared.ways.reach.Reach.{Reach}
use Rattle.cs_least.specs.declared.ways.reach.Reach.TheVariants.{Never, Large, Least}
use Rattle.cs_least.specs.Ways.Placed.{ArePlaced}
use Rattle.cs_least.specs.Ways.Ways.{reach_at}

-- what a node costs with siblings that cost this before the hole and behind it
abbrev pub siblings_cost : ℕ → Cost → Cost → Cost
siblings_cost limit before behind = plus limit (cost_of limit 1) (plus limit before behind)

-- the step from a left side to a symbol, if that is a nonterminal and there are siblings, which cost this
abbrev pub inward : ℕ → ℕ → Symbol → Cost → Option Step
inward limit left (Token t) others = None
inward limit left (Nonterminal n) cost.Never = None
inward limit left (Nonterminal n) cost.Large = Some (record { from = left; to = n; cost = limit + 1 })
inward limit left (Nonterminal n) (cost.Least m) = Some (record { from = left; to = n; cost = m })

-- the same, if the siblings before the symbol and behind it cost this
abbrev pub inward_beside : ℕ → ℕ → Symbol → Cost → Cost → Option Step
inward_beside limit left inner before behind = inward limit left inner (siblings_cost limit before behind)

-- the step leads from the left side of the place's rule to the nonterminal there, and costs what the siblings do
pub record IsInward (w : Measure) (g : PlainGrammar) (a : RulePlace) (s : Step) : Type 0 where
  pub here : SymbolAt g a.rule a.place
  pub to : here.symbol ≡ Nonterminal s.to
  pub from : s.from ≡ here.production.left
  pub others : Cost
  pub is_others : IsCost w.limit (AreSiblings g here.before here.behind) (siblings_size w) others
  pub cost : s.cost ≡ rank w.limit others
  pub low : rank w.limit others ≤ w.limit + 1

-- a nonterminal stands at this place of a rule, beside which siblings can stand
pub record HasSiblings (g : PlainGrammar) (r k : ℕ) : Type 0 where
  pub here : SymbolAt g r k
  pub nonterminal : ℕ
  pub is : here.symbol ≡ Nonterminal nonterminal
  pub siblings : Forest × Forest
  pub are : AreSiblings g here.before here.behind siblings

abbrev pub at_rule : RulePlace → ℕ
at_rule a = a.rule

abbrev pub at_place : RulePlace → ℕ
at_place a = a.place

-- The lists have, in order, the places before place j of rule q and the steps to them, but not those where no siblings can
-- stand.
abbrev pub AreInwardsTo : Measure → PlainGrammar → ℕ → ℕ → List RulePlace → List Step → Type 0
AreInwardsTo w g q j places steps = ArePlaced at_rule at_place (IsInward w g) (HasSiblings g) (λ r k. IsEarlier r k q j) places steps

-- all of a grammar
abbrev pub AreInwards : Measure → PlainGrammar → List RulePlace → List Step → Type 0
AreInwards w g places steps = AreInwardsTo w g (length g.rules + 1) 0 places steps

-- ways begin at the start symbol, where the context is the hole alone
abbrev pub start_of : PlainGrammar → List Source
start_of g = record { node = g.start; cost = 0 } ∷ []

-- what is told of a nonterminal, as a cost
abbrev pub told_cost : Reach → Cost
told_cost Never = cost.Never
told_cost Large = cost.Large
told_cost (Least n origin) = cost.Least n

-- what a table says of a number
abbrev pub told_at : List Reach → ℕ → Cost
told_at table n = told_cost (reach_at table n)
