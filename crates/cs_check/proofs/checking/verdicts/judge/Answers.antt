-- A feasible goal is shown by the cases or isn't; an infeasible one is excluded by the sets or isn't.
use Rattle.std.proofs.Common.{subst}
use Rattle.std.proofs.lemmas.Bool.{both_ways}
use Rattle.cs_lines.specs.declared.lines.line.Verdict as held
use Rattle.cs_lines.specs.Lines.Read.{TellsVerdict}
use Rattle.cs_check.proofs.OnChecking.Goaling.{feasible_right, feasible_wrong, infeasible_right, infeasible_wrong}
use Rattle.cs_check.proofs.checking.verdicts.judge.Goals as goal

pub returns-then-branch : goal.returns-then-branch
returns-then-branch c = λ lines v known sets told.
    feasible_right c.args.file.now lines c.args.goal.now c.args.cases.now known c.in-Feasible.size c.in-Feasible.case c.in-Feasible.first
    (λ s n f read_size read_case read_first.
    (c.in_ok-is_shown-in-Feasible.ensures s n f read_size read_case read_first known.small).0 c.if-branch.true)
    v (subst (λ (x : held.Verdict). TellsVerdict x v) c.in-Feasible.is told)

pub returns-else-branch : goal.returns-else-branch
returns-else-branch c = λ lines v known sets told.
    feasible_wrong c.args.file.now lines c.args.goal.now c.args.cases.now known c.in-Feasible.size c.in-Feasible.case c.in-Feasible.first
    (λ s n f read_size read_case read_first shows.
    both_ways c.in_ok-is_shown-in-Feasible.field-0 c.if-branch.false
    ((c.in_ok-is_shown-in-Feasible.ensures s n f read_size read_case read_first known.small).1 shows))
    v (subst (λ (x : held.Verdict). TellsVerdict x v) c.in-Feasible.is told)

pub returns-then-exclude : goal.returns-then-exclude
returns-then-exclude c = λ lines v known sets told.
    infeasible_right c.args.file.now lines c.args.goal.now ((c.exclude.ensures lines sets).0 c.if-exclude.true) v
    (subst (λ (x : held.Verdict). TellsVerdict x v) c.in-Infeasible.is told)

pub returns-else-exclude : goal.returns-else-exclude
returns-else-exclude c = λ lines v known sets told.
    infeasible_wrong c.args.file.now lines c.args.goal.now
    (λ h. both_ways c.exclude.result c.if-exclude.false ((c.exclude.ensures lines sets).1 h)) v
    (subst (λ (x : held.Verdict). TellsVerdict x v) c.in-Infeasible.is told)
