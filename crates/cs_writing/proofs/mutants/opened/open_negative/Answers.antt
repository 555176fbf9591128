-- The token that the edit puts is in the pair, where the negative can be told without it.
use Rattle.std.proofs.Common.{ℕ, Option, sym, subst}
use Rattle.std.specs.Prelude.{IsTrue, is_some}
use Rattle.cs_manifest.specs.declared.filling.open.OpenEdit.{OpenEdit}
use Rattle.cs_manifest.specs.declared.filling.open.OpenEdit.TheVariants.{Insert, Replace}
use Rattle.cs_writing.specs.Mutants.Rows.{IsInPair}
use Rattle.cs_writing.specs.declared.mutants.opened.Opened.{Opened}
use Rattle.cs_writing.proofs.OnMutants.Filling.{in_pair}
use Rattle.cs_writing.proofs.mutants.opened.open_negative.Goals as goal
use Rattle.cs_writing.proofs.mutants.opened.open_negative.Goals.{in-Insert, in-Replace}

-- the token is in the pair, where the negative can be told without it
pub returns-in_err-pair-clause-there : goal.returns-in_err-pair-clause-there
returns-in_err-pair-clause-there c = λ opens.
    let n = c.args.negative.now in
    let in_it = λ (t : OpenEdit × ℕ × ℕ). IsInPair n t.1 t.2 in
    subst (λ (r : Option Opened). IsTrue (is_some r)) (sym c.from_residual.ensures)
    (c.in_err-pair.ensures.there
    (elim c.match-negative.branch [
      | in-Insert w ↦ subst in_it (sym w.edit-is) (in_pair n (Insert w.in-Insert.place) w.in-Insert.token w.in-Insert.is opens)
      | in-Replace w ↦ subst in_it (sym w.edit-is) (in_pair n (Replace w.in-Replace.place) w.in-Replace.token w.in-Replace.is opens)
    ]))
