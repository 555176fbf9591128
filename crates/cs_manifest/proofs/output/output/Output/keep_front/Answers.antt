-- Of the bytes that were copied behind what waits, the first are the text, and the others don't count.
use Rattle.std.proofs.Common.{◌≡◌, arith, length, refl}
use Rattle.cs_manifest.proofs.OnOutput.Pieces.{kept, put_front}
use Rattle.cs_manifest.proofs.output.output.Output.keep_front.Goals as goal

pub returns : goal.returns
returns g c =
    let output = c.args.self.now in
    let long : length output.line.now ≡ 1024 = c.put_front.ensures.length in
    kept refl refl refl refl refl
    (put_front output.line.now c.put_front.new.line c.args.padded.now output.used g.row.N c.args.len (omega (arith, long, c.requires.room)) c.requires.short c.requires.padded c.put_front.ensures.front)
