-- The next word is a name, or the words don't begin with one.
use Rattle.std.proofs.Common.{◌≡◌, [], ◌∷◌, refl, sym, ◌∙◌, subst}
use Rattle.std.proofs.lemmas.Bool.{false≢true}
use Rattle.cs_lines.proofs.OnLines.Parts.{same_front}
use Rattle.cs_lines.specs.Words.Words.{IsWord}
use Rattle.cs_lines.proofs.lines.words.Words.name.Goals as goal

pub returns-in_err-next : goal.returns-in_err-next
returns-in_err-next c =
    rw c.from_residual.ensures (λ name others h e.
    let both : [] ≡ name ∷ others = sym (c.in_err-next.ensures) ∙ e in
    absurd cc)

pub returns-then-is_name : goal.returns-then-is_name
returns-then-is_name c = (((c.if-is_name.ensures).0 refl), c.in_ok-next.ensures)

pub returns-else-is_name : goal.returns-else-is_name
returns-else-is_name c = λ name others h e. false≢true ((c.if-is_name.ensures).1 (subst IsWord (sym (same_front (c.in_ok-next.ensures) e)) h))
