-- A run from a later offset on ends where the known one does.
use Rattle.cs_bytes.specs.Classes.{is_in}
use Rattle.cs_bytes.proofs.RunEnds.{end_stays}
use Rattle.cs_bytes.proofs.run.run_end.Goals as goal

pub returns-then-from-known : goal.returns-then-from-known
returns-then-from-known c = end_stays (is_in c.args.class) c.args.text.now c.args.from c.args.known c.requires c.if-from-known.true
