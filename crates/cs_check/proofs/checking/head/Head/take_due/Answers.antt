-- What is due says what the line must tell, and a set or a row leaves the sets with its claims.
use Rattle.std.proofs.Common.{◌≡◌, sym, ap, ◌∙◌, subst}
use Rattle.std.specs.Prelude.{IfOk}
use Rattle.std.proofs.lemmas.Result.{IfOk-weaker}
use Rattle.cs_lines.specs.declared.lines.line.Line as held
use Rattle.cs_lines.specs.Lines.Read.{Tells, set_kind, row_kind}
use Rattle.cs_check.specs.Passing.Head.{Due, Takes, TheSet, TheRow}
use Rattle.cs_check.specs.Passing.Dues.{due_told}
use Rattle.cs_check.specs.Checking.Head.{IsNextIn, state_of, IsClaimJudged, IsDueJudged}
use Rattle.cs_check.proofs.OnChecking.HeadTaken.{taken, next, opening_judged, weighing_judged, token_judged, rule_judged, set_line_judged, row_line_judged}
use Rattle.cs_check.proofs.checking.head.Head.take_due.Goals as goal

pub returns-in-Opening-clause-judged : goal.returns-in-Opening-clause-judged
returns-in-Opening-clause-judged c = λ above l h due knows tells.
    let file = c.args.file.now in
    let old = c.args.self.now in
    let d = due_told c.args.due in
    opening_judged file above old knows l h d due (ap due_told c.in-Opening.is)

pub returns-in-Weighing-line-clause-judged : goal.returns-in-Weighing-line-clause-judged
returns-in-Weighing-line-clause-judged c = λ above l h due knows tells.
    let file = c.args.file.now in
    let old = c.args.self.now in
    let d = due_told c.args.due in
    weighing_judged file above old knows l h d due (ap due_told c.in-Weighing.is) c.in-Weighing-line.weigh
    (subst (λ (x : held.Line). Tells x l) c.in-Weighing-line.is tells)

pub returns-in-Token-clause-judged : goal.returns-in-Token-clause-judged
returns-in-Token-clause-judged c = λ above l h due knows tells.
    let file = c.args.file.now in
    let old = c.args.self.now in
    let d = due_told c.args.due in
    token_judged file above old knows l h d due c.in-Token.token (ap due_told c.in-Token.is) c.is_of_token.result (λ takes. c.is_of_token.ensures l tells takes)

pub returns-in-Rule-clause-judged : goal.returns-in-Rule-clause-judged
returns-in-Rule-clause-judged c = λ above l h due knows tells.
    let file = c.args.file.now in
    let old = c.args.self.now in
    let d = due_told c.args.due in
    rule_judged file above old knows l h d due c.in-Rule.rule (ap due_told c.in-Rule.is) c.is_of_rule.result (λ takes. c.is_of_rule.ensures l tells takes)

pub returns-in-Lexeme-clause-judged : goal.returns-in-Lexeme-clause-judged
returns-in-Lexeme-clause-judged c = λ above l h due knows tells.
    let file = c.args.file.now in
    let e = ap due_told c.in-Lexeme.is in
    subst (λ (x : Due). IfOk c.take_lexeme.result (IsDueJudged file above x l c.take_lexeme.new.self)) (sym e)
    (c.take_lexeme.ensures.judged above l h (due ∙ e) knows tells)

pub returns-in-Set-clause-judged : goal.returns-in-Set-clause-judged
returns-in-Set-clause-judged c = λ above l h due knows tells.
    let file = c.args.file.now in
    let old = c.args.self.now in
    let d = due_told c.args.due in
    let kind = set_kind c.in-Set.kind in
    let e : d ≡ TheSet kind = ap due_told c.in-Set.is in
    let new = c.take_set.new.sets in
    let first = subst (λ (x : Due). IsNextIn (state_of above) x) e (next file above old knows l h d due) in
    let takes = subst (λ (x : Due). Takes x l) e (taken file above old knows l h d due) in
    IfOk-weaker c.take_set.result (IsClaimJudged file above (TheSet kind) l new) (IsDueJudged file above d l (record old { sets = new }))
    (λ so judged. set_line_judged file above old knows l h d due kind e new so judged c.take_set.ensures.whole)
    (c.take_set.ensures.judged above l knows.sets knows.unclaimed first tells takes)

pub returns-in-Row-clause-judged : goal.returns-in-Row-clause-judged
returns-in-Row-clause-judged c = λ above l h due knows tells.
    let file = c.args.file.now in
    let old = c.args.self.now in
    let d = due_told c.args.due in
    let kind = row_kind c.in-Row.kind in
    let e : d ≡ TheRow kind c.in-Row.number = ap due_told c.in-Row.is in
    let new = c.take_row.new.sets in
    let first = subst (λ (x : Due). IsNextIn (state_of above) x) e (next file above old knows l h d due) in
    let takes = subst (λ (x : Due). Takes x l) e (taken file above old knows l h d due) in
    row_line_judged file above old knows l h d due kind c.in-Row.number e new c.take_row.result
    (c.take_row.ensures.judged above l knows.sets knows.unclaimed first tells takes) c.take_row.ensures.whole
