-- A piece that is copied whole stands behind the bytes in front of its place.
use Rattle.std.proofs.Common.{length, ◌≡◌, ◌≤◌, ◌+◌, arith, refl}
use Rattle.cs_manifest.proofs.OnOutput.Pieces.{put_in}
use Rattle.cs_manifest.proofs.output.output.put_at.Goals as goal

pub returns-in_default : goal.returns-in_default
returns-in_default c =
    let line = c.args.line.now in
    let at = c.args.at in
    let piece = c.args.piece.now in
    let long : length line ≡ 1024 = grind arith in
    let within : at ≤ length line = omega (arith, long, c.requires) in
    put_in line piece c.copy_from_slice.new.self at (at + length piece) within refl c.copy_from_slice.ensures.after
