-- An ending that is reported, with the status of what was reported, keeps the promises.
use Rattle.cs_run.proofs.OnEnding.Promises.{keeps}
use Rattle.cs_run.proofs.ending.report.finish.Goals as goal

pub returns : goal.returns
returns g c = λ asked desk out performs.
    keeps asked desk out _ _ c.report.result c.status.result performs c.report.ensures.ending c.report.ensures.line c.report.ensures.silent c.report.ensures.denied_silently c.status.ensures
