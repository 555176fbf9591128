-- The plain bytes in front stand for themselves.
use Rattle.cs_manifest.proofs.OnOutput.Pieces.{spelled}
use Rattle.cs_manifest.proofs.OnOutput.Runs.{plain_run}
use Rattle.cs_manifest.proofs.output.names.put_some.Goals as goal

pub returns-then-plain-gt0-clause-put : goal.returns-then-plain-gt0-clause-put
returns-then-plain-gt0-clause-put g c =
    let put = rw c.plain_len-plain.ensures at c.put.ensures in
    rw c.plain_len-plain.ensures (spelled _ (plain_run c.args.text.now) put)
