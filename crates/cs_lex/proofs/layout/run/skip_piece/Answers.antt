-- The brace that was read at the offset is what a block begins with.
use Rattle.std.proofs.Common.{◌≡◌, sym, true, ◌∙◌}
use Rattle.cs_bytes.specs.Places.{has_at}
use Rattle.cs_bytes.proofs.Fronts.{got_at}
use Rattle.cs_lex.proofs.layout.run.skip_piece.Goals as goal

pub skip_block-requires : goal.skip_block-requires
skip_block-requires c =
    let e : has_at c.bytes.result.now c.args.at 123 ≡ true = sym c.has_at.ensures ∙ c.if-has_at.true in
    got_at c.args.text.now c.args.at 123 (rw c.bytes.ensures at e)
