-- The rule goals were written or their writing stopped, and the run ends as that did.
use Rattle.cs_io.specs.Uses.{used}
use Rattle.cs_run.specs.Writer.Suite.{IsRules}
use Rattle.cs_run.proofs.OnCommand.Scanned.{ended_sure}
use Rattle.cs_run.proofs.command.command.rules.Goals as goal

pub returns-clause-writes : goal.returns-clause-writes
returns-clause-writes g c =
    ended_sure (IsRules c.args.file.now) c.write_rules.result c.ended.result (used g.O.Sink c.args.out.now c.write_rules.new.out) c.ended.ensures.ending c.write_rules.ensures.ok c.write_rules.ensures.part
    c.write_rules.ensures.no_fault c.write_rules.ensures.failed c.write_rules.ensures.room
