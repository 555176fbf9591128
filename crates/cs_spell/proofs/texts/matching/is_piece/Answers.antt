-- The bytes that are compared are those from the place on, as many as the size.
use Rattle.std.proofs.Common.{◌≡◌, ℕ, List, subst, take}
use Rattle.std.specs.Prelude.{Decides}
use Rattle.std.proofs.lemmas.Bool.Decides.{Decides-eqb}
use Rattle.std.proofs.lemmas.List.{take_rest}
use Rattle.std.proofs.lemmas.Slice.Eq.{slice_eq-Decides}
use Rattle.cs_spell.proofs.texts.matching.is_piece.Goals as goal

pub returns : goal.returns
returns c =
    subst (λ (t : List ℕ). Decides c.eq.result (take c.args.size t ≡ c.args.piece.now)) (take_rest c.args.text.now c.args.at)
    (slice_eq-Decides Decides-eqb _ c.args.piece.now c.eq.result c.eq.ensures)
