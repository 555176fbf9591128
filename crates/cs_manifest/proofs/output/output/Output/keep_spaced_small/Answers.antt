-- The space and the number's digits stand in the line behind what waits.
use Rattle.std.proofs.Common.{refl, ◌++◌, ◌∷◌, [], ◌∙◌, List, ap, append_assoc, decimal, take, ℕ}
use Rattle.cs_manifest.proofs.OnOutput.Pieces.{kept}
use Rattle.cs_manifest.proofs.output.output.Output.keep_spaced_small.Goals as goal

pub returns : goal.returns
returns g c =
    let output = c.args.self.now in
    kept refl refl refl refl refl
    (c.put_digits-self.ensures ∙ ap (λ (t : List ℕ). t ++ decimal c.args.number) c.put_front.ensures.front
    ∙ append_assoc (take output.used output.line.now) (32 ∷ []) (decimal c.args.number))
