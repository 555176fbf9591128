-- The line of a token or a rule is for this place where it has its number.
use Rattle.std.proofs.Common.{sym, ap, subst, ◌↔◌}
use Rattle.std.specs.Prelude.{IsTrue}
use Rattle.cs_lines.specs.declared.lines.line.Line as held
use Rattle.cs_lines.specs.Lines.Read.{Tells}
use Rattle.cs_check.specs.Passing.Head.{Due, Takes}
use Rattle.cs_check.specs.Passing.Dues.{due_told}
use Rattle.cs_check.proofs.OnChecking.HeadTells.{token_taken, rule_taken}
use Rattle.cs_check.proofs.checking.head.takes.Goals as goal

pub returns-in-Token-Token : goal.returns-in-Token-Token
returns-in-Token-Token c = λ l tells.
    let at = c.in-Token-Token in
    let so = c.is_number.result in
    subst (λ (d : Due). IsTrue so ↔ Takes d l) (sym (ap due_told at.is-0))
    (token_taken at.token at.number at.name-1 so c.is_number.ensures l (subst (λ (x : held.Line). Tells x l) at.is-1 tells))

pub returns-in-Rule-Rule : goal.returns-in-Rule-Rule
returns-in-Rule-Rule c = λ l tells.
    let at = c.in-Rule-Rule in
    let so = c.is_number-in-Rule-Rule.result in
    subst (λ (d : Due). IsTrue so ↔ Takes d l) (sym (ap due_told at.is-0))
    (rule_taken at.rule at.number at.left-1 at.right-1 so c.is_number-in-Rule-Rule.ensures l (subst (λ (x : held.Line). Tells x l) at.is-1 tells))
