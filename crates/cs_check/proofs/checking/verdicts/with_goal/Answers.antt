-- One goal more is counted, and one more of its verdict.
use Rattle.std.proofs.Common.{subst}
use Rattle.cs_lines.specs.declared.lines.line.Verdict as held
use Rattle.cs_lines.specs.Lines.Read.{TellsVerdict}
use Rattle.cs_check.proofs.OnChecking.Counting.{few_goals, few_feasible, few_infeasible, few_large, feasible_counted, infeasible_counted, large_counted}
use Rattle.cs_check.proofs.checking.verdicts.with_goal.Goals as goal

pub returns-in-Feasible : goal.returns-in-Feasible
returns-in-Feasible c = λ lines n w v t few told.
    let old = c.args.counts in
    feasible_counted lines old t few n w c.more.result (c.more.ensures (few_goals lines old t few))
    c.in-Feasible.size c.in-Feasible.case c.in-Feasible.first c.more-in-Feasible.result v
    (subst (λ (x : held.Verdict). TellsVerdict x v) c.in-Feasible.is told)
    (c.more-in-Feasible.ensures (few_feasible lines old t few))

pub returns-in-Infeasible : goal.returns-in-Infeasible
returns-in-Infeasible c = λ lines n w v t few told.
    let old = c.args.counts in
    infeasible_counted lines old t few n w c.more.result (c.more.ensures (few_goals lines old t few)) c.more-in-Infeasible.result v
    (subst (λ (x : held.Verdict). TellsVerdict x v) c.in-Infeasible.is told)
    (c.more-in-Infeasible.ensures (few_infeasible lines old t few))

pub returns-in-Large : goal.returns-in-Large
returns-in-Large c = λ lines n w v t few told.
    let old = c.args.counts in
    large_counted lines old t few n w c.more.result (c.more.ensures (few_goals lines old t few)) c.more-in-Large.result v
    (subst (λ (x : held.Verdict). TellsVerdict x v) c.in-Large.is told)
    (c.more-in-Large.ensures (few_large lines old t few))
