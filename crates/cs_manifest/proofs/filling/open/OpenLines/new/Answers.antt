-- Each of the five pieces is a part of the lines, and the parts, filled, are the lines of a negative.
use Rattle.cs_manifest.proofs.OnFilling.Holes.{parts_fill}
use Rattle.cs_manifest.proofs.filling.open.OpenLines.new.Goals as goal

pub returns : goal.returns
returns c =
    rw (
      c.in_ok-part_piece.ensures,
      c.in_ok-part_piece-2.ensures,
      c.in_ok-part_piece-3.ensures,
      c.in_ok-part_piece-4.ensures,
      c.in_ok-part_piece-5.ensures,
    ) (parts_fill c.args.file.now c.args.negatives.now)
