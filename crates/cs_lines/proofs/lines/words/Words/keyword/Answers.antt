-- The next word is the same, or the words don't begin with it.
use Rattle.std.proofs.Common.{◌≡◌, [], ◌∷◌, refl, sym, ◌∙◌}
use Rattle.std.proofs.lemmas.Bool.{false≢true}
use Rattle.cs_lines.proofs.OnLines.Parts.{same_front, front}
use Rattle.cs_lines.proofs.lines.words.Words.keyword.Goals as goal

pub returns-in_err-next : goal.returns-in_err-next
returns-in_err-next c =
    rw c.from_residual.ensures (λ others e.
    let both : [] ≡ c.args.word.now ∷ others = sym (c.in_err-next.ensures) ∙ e in
    absurd cc)

pub returns-then-same_word : goal.returns-then-same_word
returns-then-same_word c = front (c.in_ok-next.ensures) ((c.if-same_word.ensures).0 refl)

pub returns-else-same_word : goal.returns-else-same_word
returns-else-same_word c = λ others e. false≢true ((c.if-same_word.ensures).1 (same_front (c.in_ok-next.ensures) e))
