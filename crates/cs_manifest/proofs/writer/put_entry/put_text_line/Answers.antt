-- What stands for the bytes of the whole text is what stands for its three parts, one behind the other.
use Rattle.std.proofs.Common.{ap, codes, List, ℕ, ◌∷◌, ◌++◌}
use Rattle.cs_manifest.proofs.OnOutput.Pieces.{spelled, then}
use Rattle.cs_manifest.proofs.OnOutput.Runs.{parts_spelled}
use Rattle.cs_manifest.proofs.writer.put_entry.put_text_line.Goals as goal

pub returns : goal.returns
returns g c =
    spelled _ (ap (λ (t : List ℕ). codes "\n  text " ++ 34 ∷ t) (parts_spelled c.args.front.now c.args.middle.now c.args.back.now))
    (then (then (then (then c.put.ensures c.put_text_bytes.ensures) c.put_text_bytes-2.ensures) c.put_text_bytes-3.ensures) c.put-2.ensures)
