-- The number of the goal is what the table has at the goal's key.
use Rattle.std.proofs.Common.{ℕ, List, ap, subst, ◌∙◌}
use Rattle.std.specs.Map.{lookup}
use Rattle.cs_goals.specs.declared.goal.Goal.{Goal}
use Rattle.cs_verdicts.specs.declared.cases.firsts.Key.{Key}
use Rattle.cs_verdicts.specs.contracts.cases.firsts.KeyPartialEq.TheImpl as keys
use Rattle.cs_verdicts.specs.Cases.Table.{IsFound}
use Rattle.cs_verdicts.proofs.OnCases.Keyed.{found_is}
use Rattle.cs_verdicts.proofs.cases.firsts.Firsts.get.Goals as goal

pub returns : goal.returns
returns c =
    let es = c.self.inside.table.entries in
    let found = c.copied.ensures ∙ c.get.ensures.value ∙ ap (λ (k : Key). lookup (keys.eq-value.it k) es) c.key_of.ensures in
    subst (λ (firsts : List (Goal × ℕ)). IsFound firsts c.args.goal.now c.copied.result) c.self.view_is (found_is c.args.goal.now es c.copied.result found)
