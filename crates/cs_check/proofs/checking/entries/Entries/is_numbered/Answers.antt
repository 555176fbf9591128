-- A case, a goal, a base or a negative is numbered where it has the next number of its kind.
use Rattle.std.proofs.Common.{subst}
use Rattle.cs_lines.specs.declared.lines.line.Line as held
use Rattle.cs_lines.specs.Lines.Read.{Tells}
use Rattle.cs_check.proofs.OnChecking.Numbering.{case_numbered, goal_numbered, base_numbered, negative_numbered}
use Rattle.cs_check.proofs.checking.entries.Entries.is_numbered.Goals as goal

pub returns-in-Case : goal.returns-in-Case
returns-in-Case c = λ file lines l t told.
    case_numbered file lines c.args.self.now t c.in-Case.number c.more.result c.in-Case.size c.more.ensures l
    (subst (λ (x : held.Line). Tells x l) c.in-Case.is told)

pub returns-in-Goal : goal.returns-in-Goal
returns-in-Goal c = λ file lines l t told.
    goal_numbered file lines c.args.self.now t c.in-Goal.number c.more-in-Goal.result c.in-Goal.goal c.in-Goal.verdict c.more-in-Goal.ensures l
    (subst (λ (x : held.Line). Tells x l) c.in-Goal.is told)

pub returns-in-Base : goal.returns-in-Base
returns-in-Base c = λ file lines l t told.
    base_numbered file lines c.args.self.now t c.in-Base.number c.more-in-Base.result c.in-Base.goal c.more-in-Base.ensures l
    (subst (λ (x : held.Line). Tells x l) c.in-Base.is told)

pub returns-in-Negative : goal.returns-in-Negative
returns-in-Negative c = λ file lines l t told.
    negative_numbered file lines c.args.self.now t c.in-Negative.number c.more-in-Negative.result c.in-Negative.base c.in-Negative.edit c.in-Negative.left c.in-Negative.right c.in-Negative.at c.more-in-Negative.ensures l
    (subst (λ (x : held.Line). Tells x l) c.in-Negative.is told)
