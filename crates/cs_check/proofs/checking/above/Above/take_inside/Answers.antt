-- The head judges the line, and the part and the entries stay.
use Rattle.std.proofs.lemmas.Result.{IfOk-weaker}
use Rattle.cs_check.specs.Checking.Head.{IsHeadJudged}
use Rattle.cs_check.specs.Checking.Running.{IsLineJudged}
use Rattle.cs_check.specs.Checking.Told.{checked_by}
use Rattle.cs_check.proofs.OnChecking.Placing.{head_judged, knows_inside}
use Rattle.cs_check.proofs.checking.above.Above.take_inside.Goals as goal

pub returns-clause-judged : goal.returns-clause-judged
returns-clause-judged c = λ scanning above l k tells h few.
    let file = c.args.yacc.now in
    let checked = checked_by file scanning in
    let a = c.args.self.now in
    IfOk-weaker c.take.result
    (IsHeadJudged file above l c.take.new.self)
    (IsLineJudged checked above l (record a { head = c.take.new.self }))
    (head_judged checked above a k l h few c.take.new.self)
    (c.take.ensures.judged above l (knows_inside file above a k l h) tells h)
