-- What is kept of a grammar's contexts, and what is written by it.
use Rattle.std.specs.Prelude.{◌≡◌, ℕ, ◌+◌, ◌≤◌, List, ◌++◌, Option, length, reverse, drop, slice_index_or, All}
use Rattle.std.specs.Global.{Vec}
use Rattle.cs_grammar.specs.declared.symbol.Symbol.{Symbol}
use Rattle.cs_grammar.specs.declared.symbol.Symbol.TheVariants.{Nonterminal}
use Rattle.cs_grammar.specs.Grammar.{PlainGrammar, IsGrammar}
use Rattle.cs_grammar.specs.Weights.{Measure, Weighed}
use Rattle.cs_grammar.specs.Context.{Context, code_before, code_after}
use Rattle.cs_least.specs.declared.cost.cost.Cost.{Cost}
use Rattle.cs_least.specs.declared.cost.cost.Cost.TheVariants.{Never}
use Rattle.cs_least.specs.Cost.Rank.{rank}
use Rattle.cs_least.specs.Cost.Trees.{AreTreesCost}
use Rattle.cs_least.specs.declared.embed.inwards.RulePlace.{RulePlace}
use Rattle.cs_least.specs.declared.embed.inwards.Inwards.{Inwards}
use Rattle.cs_least.specs.declared.embed.table.Tables.{Tables}
use Rattle.cs_least.specs.declared.embed.embeds.Outward.{Outward}
use Rattle.cs_least.specs.Embed.ChosenContext.{IsChosenContext}
use Rattle.cs_least.specs.Embed.Embeds.{IsLead}
use Rattle.cs_least.specs.Embed.Ways.{IsInward, AreInwardsTo, AreInwards, start_of, told_at}
use Rattle.cs_least.specs.declared.ways.step.Step.{Step}
use Rattle.cs_least.specs.declared.ways.reach.Reach.{Reach}
use Rattle.cs_least.specs.Ways.Ways.{net_of, AreLeastWays, AreFirstSteps}

-- what the least trees of the symbols from each place on cost together
pub record AreRestCosts (v : Weighed) (xs : List Symbol) (rest : List Cost) : Type 0 where
  pub many : length rest ≡ length xs + 1
  pub each : (k : ℕ) → k ≤ length xs → AreTreesCost v (drop k xs) (slice_index_or rest k Never)

-- the steps of the rules before a number, and of all
abbrev pub AreInwardsBefore : Weighed → ℕ → Inwards → Type 0
AreInwardsBefore v rule inwards = AreInwardsTo v.weights v.grammar rule 0 inwards.places.items inwards.steps.items

abbrev pub AreInwardsOf : Weighed → Inwards → Type 0
AreInwardsOf v inwards = AreInwards v.weights v.grammar inwards.places.items inwards.steps.items

-- what is kept of a grammar's contexts: the places of its steps, the least ways over the steps, and by which step each of them
-- ends first
pub record AreEmbeds (w : Measure) (g : PlainGrammar) (places : List RulePlace) (table : List Reach) (firsts : List (Option ℕ)) : Type 0 where
  pub grammar : IsGrammar g
  pub steps : List Step
  pub inwards : AreInwards w g places steps
  pub least : AreLeastWays w.limit (net_of g.nonterminals steps) (start_of g) table
  pub first_steps : AreFirstSteps (net_of g.nonterminals steps) (start_of g) table firsts

abbrev pub AreTablesOf : Weighed → Tables → Type 0
AreTablesOf v tables = AreEmbeds v.weights v.grammar tables.places.items tables.reaches.items tables.firsts.items

-- the least context of the nonterminal is within the limit
abbrev pub IsSmallIn : Weighed → Tables → ℕ → Type 0
IsSmallIn v tables n = rank v.weights.limit (told_at tables.reaches.items n) ≤ v.weights.limit

-- a place whose siblings are within the limit
pub record IsSmallPlace (w : Measure) (g : PlainGrammar) (a : RulePlace) : Type 0 where
  pub step : Step
  pub inward : IsInward w g a step
  pub small : step.cost ≤ w.limit

-- the places of the holes in the chosen context of a nonterminal from the innermost outwards, and the rule numbers behind the
-- innermost
pub record IsOutward (w : Measure) (g : PlainGrammar) (n : ℕ) (places : List RulePlace) (after : List ℕ) : Type 0 where
  pub small : All (IsSmallPlace w g) places
  pub text : (c : Context) → IsChosenContext w g (Nonterminal n) c → IsLead w g (reverse places) (code_before c) × (code_after c ≡ after)

abbrev pub LeadsOut : Weighed → ℕ → Outward → Type 0
LeadsOut v n outward = IsOutward v.weights v.grammar n outward.places.items outward.after

-- the rule numbers before a hole come behind what stood there
abbrev pub WritesLead : Weighed → Vec RulePlace → List ℕ → List ℕ → Type 0
WritesLead v places old new = (text : List ℕ) → IsLead v.weights v.grammar (reverse places.items) text → new ≡ old ++ text
