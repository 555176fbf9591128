-- One lexeme's line more, by the number of the token's place.
use Rattle.std.proofs.Common.{ap, ℕ}
use Rattle.cs_manifest.proofs.OnOutput.Pieces.{nothing, numbered_more, spelled}
use Rattle.cs_manifest.specs.Manifest.Lines.{lexeme_line}
use Rattle.cs_manifest.proofs.writer.put_head.put_lexemes.Goals as goal

pub loop-place-init : goal.loop-place-init
loop-place-init g c = nothing _

pub loop-place-preserved : goal.loop-place-preserved
loop-place-preserved g c =
    let line = spelled _ (ap (λ (number : ℕ). lexeme_line c.args.lexemes.now number c.index-names-place.result) c.number_of.ensures) c.put_lexeme_line.ensures in
    numbered_more (lexeme_line c.args.lexemes.now) c.args.names.now c.loop-place.place c.index-names-place.result c.loop-place-test.true c.index-names-place.is c.loop-place.invariant line
