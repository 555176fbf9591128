-- The entries judge the line, whose part is the last one from then on.
use Rattle.std.specs.Prelude.{IfOk}
use Rattle.std.proofs.Common.{sym, subst}
use Rattle.std.proofs.lemmas.Result.{IfOk-weaker}
use Rattle.cs_scanner.specs.Scan.Compared.{scanning}
use Rattle.cs_check.specs.Passing.Places.{Part, part_of}
use Rattle.cs_check.specs.Checking.Running.{IsEntryJudged, IsLineJudged}
use Rattle.cs_check.specs.Checking.Told.{checked_by}
use Rattle.cs_check.proofs.OnChecking.Placing.{entry_judged, has_ended}
use Rattle.cs_check.proofs.checking.above.Above.take_behind.Goals as goal

pub returns-clause-judged : goal.returns-clause-judged
returns-clause-judged c = λ above l k tells h few.
    let file = c.args.yacc.now in
    let checked = checked_by file (scanning c.args.scanner.now) in
    let a = c.args.self.now in
    let new = c.take.new.self in
    subst (λ (p : Part). IfOk c.take.result (IsLineJudged checked above l (record a { part = p; entries = new })))
    (sym (c.part_of-self.ensures l tells))
    (IfOk-weaker c.take.result (IsEntryJudged checked above l new)
    (IsLineJudged checked above l (record a { part = part_of a.part l; entries = new }))
    (entry_judged checked above a k l h new)
    (c.take.ensures above l k.entries (has_ended file above a k h.behind) tells h few))
