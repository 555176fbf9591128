-- Behind `weigh` stands one word, which says what sizes count.
use Rattle.std.proofs.Common.{◌≡◌, [], ◌∷◌, refl, sym, ◌∙◌}
use Rattle.std.proofs.lemmas.Bool.{false≢true}
use Rattle.std.proofs.lemmas.List.Elements.{All-nil}
use Rattle.std.specs.Prelude.{codes}
use Rattle.cs_lines.proofs.OnLines.Forms.{says_words, weighing_words}
use Rattle.cs_lines.proofs.OnLines.Parts.{same_front, same_behind, on, front}
use Rattle.cs_lines.proofs.OnLines.Spelled.{IsByte}
use Rattle.cs_lines.proofs.OnLines.Splits.{behind_free}
use Rattle.cs_lines.specs.Lines.Line.{Weighing}
use Rattle.cs_lines.specs.Lines.Splits.{words_behind}
use Rattle.cs_lines.specs.Lines.Texts.{weigh_word}
use Rattle.cs_lines.specs.Words.Words.{IsWord}
use Rattle.cs_lines.proofs.lines.head.read_weighing.Goals as goal

pub returns-in_err-word : goal.returns-in_err-word
returns-in_err-word c =
    rw c.from_residual.ensures (λ l h.
    let p = weighing_words (words_behind c.args.line.rest.now) l (behind_free c.args.line.rest.now) h in
    (let both : [] ≡ weigh_word p.weigh ∷ [] = sym (c.in_err-word.ensures) ∙ p.is in absurd cc))

pub returns-in_err-weigh : goal.returns-in_err-weigh
returns-in_err-weigh c =
    rw c.from_residual-in_err-weigh.ensures (λ l h.
    let p = weighing_words (words_behind c.args.line.rest.now) l (behind_free c.args.line.rest.now) h in
    let one = c.in_ok-word.ensures in
    c.in_err-weigh.ensures p.weigh (same_front one p.is))

pub returns-then-is_done : goal.returns-then-is_done
returns-then-is_done c =
    let one = c.in_ok-word.ensures in
    let weigh = c.in_ok-weigh.weigh in
    let is = on (codes "weigh") (front one (c.in_ok-weigh.ensures) ∙ on (weigh_word weigh) ((c.if-is_done.ensures).0 refl)) in
    (Weighing weigh, says_words _ (Weighing weigh) is (All-nil IsWord) (All-nil IsByte), refl)

pub returns-else-is_done : goal.returns-else-is_done
returns-else-is_done c l h =
    let p = weighing_words (words_behind c.args.line.rest.now) l (behind_free c.args.line.rest.now) h in
    let one = c.in_ok-word.ensures in
    let rest1 = same_behind one p.is in
    false≢true ((c.if-is_done.ensures).1 rest1)
