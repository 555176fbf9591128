-- The head takes the lines that stand in it, and a line that stands nowhere has the wrong form.
use Rattle.cs_scanner.specs.Scan.Compared.{scanning}
use Rattle.cs_check.specs.Checking.Told.{checked_by}
use Rattle.cs_check.proofs.OnChecking.Placing.{wrong_form}
use Rattle.cs_check.proofs.checking.above.Above.take_line.Goals as goal

pub returns-in-InHead-clause-judged : goal.returns-in-InHead-clause-judged
returns-in-InHead-clause-judged c = λ above l k tells few.
    c.take_inside.ensures.judged (scanning c.args.scanner.now) above l k tells (rw c.in-InHead.is at c.place.ensures above l k tells) few

pub returns-in-Nowhere-clause-judged : goal.returns-in-Nowhere-clause-judged
returns-in-Nowhere-clause-judged c = λ above l k tells few.
    wrong_form (checked_by c.args.yacc.now (scanning c.args.scanner.now)) above l (rw c.in-Nowhere.is at c.place.ensures above l k tells)
