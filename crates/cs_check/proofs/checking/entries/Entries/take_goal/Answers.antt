-- The goal is the one that is due, and a fault of its verdict is the line's; else it is counted.
use Rattle.std.proofs.Common.{ℕ, Option, sym, subst}
use Rattle.cs_check.specs.declared.passing.fault.ClaimFault.{ClaimFault}
use Rattle.cs_check.specs.Passing.Above.{goals_in}
use Rattle.cs_check.specs.Checking.Told.{IsCaseOf}
use Rattle.cs_check.specs.Checking.Verdicts.{IsVerdictJudged}
use Rattle.cs_check.proofs.OnChecking.Goaling.{case_is, excluded_right, verdict_wrong, cases_known, goal_taken}
use Rattle.cs_check.proofs.OnChecking.Negatives.{case_within}
use Rattle.cs_check.proofs.checking.entries.Entries.take_goal.Goals as goal

pub returns-in-Some-2 : goal.returns-in-Some-2
returns-in-Some-2 c = λ lines n w v t sets follows few told_goal told.
    let file = c.args.file.now in
    let due = c.in-Some.ensures.some (goals_in lines) w t.due told_goal in
    let judged = c.in_ok-fault.ensures lines v (cases_known file lines c.args.self.now t follows) sets told in
    verdict_wrong file lines n w c.in-Some.goal due.0 (record c.args.self.now { due = c.take.new.self }) v c.in-Some-2.fault
    (subst (λ (o : Option ClaimFault). IsVerdictJudged file lines c.in-Some.goal v o) c.in-Some-2.is judged)

pub returns : goal.returns
returns c = λ lines n w v t sets follows few told_goal told.
    let file = c.args.file.now in
    let e = c.args.self.now in
    let x = c.in-Some.goal in
    let case = c.case_in.result in
    let due = c.in-Some.ensures.some (goals_in lines) w t.due told_goal in
    let judged = subst (λ (o : Option ClaimFault). IsVerdictJudged file lines x v o) c.in_default-2.is
    (c.in_ok-fault.ensures lines v (cases_known file lines e t follows) sets told) in
    let is = subst (λ (k : ℕ). IsCaseOf v k) (sym c.case_in.ensures) (case_is file lines x c.args.verdict v told t.few judged.0) in
    let low = case_within file lines e t v x case judged.0 is in (
      (x, due.0, judged.0),
      excluded_right file lines n w x due.0 v judged.1,
      goal_taken file lines e t follows n w v c.take.new.self c.push.new.self case c.with_goal-self.result few due.1
          c.in_ok-push.ensures.items is low (c.with_goal-self.ensures lines n w v t.counts t.few told),
    )
