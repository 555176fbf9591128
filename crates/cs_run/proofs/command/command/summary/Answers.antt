-- The summary was written or its writing stopped, and the run ends as that did.
use Rattle.cs_io.specs.Uses.{used}
use Rattle.cs_run.specs.Ending.Summary.{IsSummary}
use Rattle.cs_run.specs.Command.Carrying.{GrewBySome}
use Rattle.cs_run.proofs.OnCommand.Scanned.{ended_so}
use Rattle.cs_run.proofs.command.command.summary.Goals as goal

pub returns-clause-writes : goal.returns-clause-writes
returns-clause-writes g c =
    ended_so (Unit {0}) (λ refusal. ⊥) (IsSummary c.args.seed) (GrewBySome (IsSummary c.args.seed)) c.write_summary.result c.ended.result
    (used g.O.Sink c.args.out.now c.write_summary.new.out) tt c.ended.ensures.ending c.write_summary.ensures.ok c.write_summary.ensures.part
    c.write_summary.ensures.no_fault c.write_summary.ensures.failed c.write_summary.ensures.room
