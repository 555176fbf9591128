-- The number, the kind at the rule's place, and what the rule wins.
use Rattle.std.proofs.Common.{ap}
use Rattle.std.specs.Prelude.{slice_get}
use Rattle.cs_manifest.proofs.OnOutput.Pieces.{spelled, then}
use Rattle.cs_lexical.specs.Lines.{kind_of}
use Rattle.cs_lexical.proofs.put.put_rule.Goals as goal

pub returns : goal.returns
returns g c =
    let kind = spelled _ (ap (λ place. kind_of c.args.file.now (slice_get c.args.kinds.now place)) c.place_of.ensures) c.put_kind.ensures in
    then (then (then (then c.put_count.ensures c.put.ensures) kind) c.put_win.ensures) c.put-2.ensures
