-- One token's marks more; the token's number is that of the list's place.
use Rattle.std.proofs.Common.{ap, ◌∙◌, ℕ}
use Rattle.cs_manifest.proofs.OnOutput.Pieces.{nothing, numbered_more, spelled}
use Rattle.cs_manifest.specs.Manifest.SharedLines.{token_next_line}
use Rattle.cs_manifest.proofs.writer.put_closed.put_token_nexts.Goals as goal

pub loop-place-init : goal.loop-place-init
loop-place-init g c = nothing _

pub loop-place-preserved : goal.loop-place-preserved
loop-place-preserved g c =
    let line = spelled _ (ap (token_next_line c.args.file.now c.number_of.result) c.list.ensures ∙ ap (λ (number : ℕ). token_next_line c.args.file.now number c.index-nexts-place.result) c.number_of.ensures) c.put_next.ensures in
    numbered_more (token_next_line c.args.file.now) c.args.nexts.now c.loop-place.place c.index-nexts-place.result c.loop-place-test.true c.index-nexts-place.is c.loop-place.invariant line
