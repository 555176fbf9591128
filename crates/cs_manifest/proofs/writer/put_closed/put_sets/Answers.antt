-- The line of the productive, that of the reachable and that of the empty, each by its own list.
use Rattle.std.proofs.Common.{ap, codes}
use Rattle.cs_manifest.proofs.OnOutput.Pieces.{spelled, then}
use Rattle.cs_manifest.specs.Manifest.SharedLines.{set_line}
use Rattle.cs_manifest.proofs.writer.put_closed.put_sets.Goals as goal

pub returns : goal.returns
returns g c =
    let productive = spelled _ (ap (set_line (codes "closed productive") c.args.file.now) c.productive.ensures) c.put_set.ensures in
    let reachable = spelled _ (ap (set_line (codes "closed reachable") c.args.file.now) c.reachable.ensures) c.put_set-2.ensures in
    let empty = spelled _ (ap (set_line (codes "closed empty") c.args.file.now) c.empty.ensures) c.put_set-3.ensures in
    then (then productive reachable) empty
