-- The words are a number, a base, an edit, a pair of names and a place, and nothing more.
use Rattle.std.proofs.Common.{[], ◌∷◌, refl, ap, ◌∙◌}
use Rattle.std.proofs.lemmas.Bool.{false≢true}
use Rattle.std.proofs.lemmas.List.Elements.{All-nil, All-cons}
use Rattle.std.specs.Prelude.{codes}
use Rattle.cs_lines.proofs.OnLines.Forms.{says_words, negative_words}
use Rattle.cs_lines.proofs.OnLines.Parts.{same_behind, same_behind_two, behind_edit, on, step, step_two}
use Rattle.cs_lines.proofs.OnLines.Spelled.{IsByte}
use Rattle.cs_lines.proofs.OnLines.Splits.{behind_free}
use Rattle.cs_lines.proofs.OnTexts.OneLine.{pair_words}
use Rattle.cs_lines.specs.Lines.Line.{NegativeLine}
use Rattle.cs_lines.specs.Lines.Splits.{words_behind}
use Rattle.cs_lines.specs.Lines.Texts.{edit_words, edit_names}
use Rattle.cs_lines.specs.Words.Words.{numeral, IsWord}
use Rattle.cs_lines.proofs.lines.entries.read_negative.Goals as goal

pub returns-in_err-number : goal.returns-in_err-number
returns-in_err-number c =
    rw c.from_residual.ensures (λ l h.
    let p = negative_words (words_behind c.args.line.rest.now) l (behind_free c.args.line.rest.now) h in
    c.in_err-number.ensures p.number (codes "base" ∷ numeral p.base ∷ edit_words p.edit (pair_words p.left p.right p.place)) p.is)

pub returns-in_err-base : goal.returns-in_err-base
returns-in_err-base c =
    rw c.from_residual-in_err-base.ensures (λ l h.
    let p = negative_words (words_behind c.args.line.rest.now) l (behind_free c.args.line.rest.now) h in
    c.in_err-base.ensures p.base (edit_words p.edit (pair_words p.left p.right p.place)) (same_behind c.in_ok-number.ensures.2 p.is))

pub returns-in_err-edit : goal.returns-in_err-edit
returns-in_err-edit c =
    rw c.from_residual-in_err-edit.ensures (λ l h.
    let p = negative_words (words_behind c.args.line.rest.now) l (behind_free c.args.line.rest.now) h in
    c.in_err-edit.ensures p.edit (pair_words p.left p.right p.place) p.are_words (same_behind_two c.in_ok-base.ensures.2 (same_behind c.in_ok-number.ensures.2 p.is)))

pub returns-in_err-keyword : goal.returns-in_err-keyword
returns-in_err-keyword c =
    rw c.from_residual-in_err-keyword.ensures (λ l h.
    let p = negative_words (words_behind c.args.line.rest.now) l (behind_free c.args.line.rest.now) h in
    c.in_err-keyword.ensures (p.left ∷ p.right ∷ codes "at" ∷ numeral p.place ∷ []) (behind_edit c.in_ok-edit.ensures.0 p.edit c.in_ok-edit.ensures.3 (same_behind_two c.in_ok-base.ensures.2 (same_behind c.in_ok-number.ensures.2 p.is))))

pub returns-in_err-names : goal.returns-in_err-names
returns-in_err-names c =
    rw c.from_residual-in_err-names.ensures (λ l h.
    let p = negative_words (words_behind c.args.line.rest.now) l (behind_free c.args.line.rest.now) h in
    c.in_err-names.ensures p.left p.right (codes "at" ∷ numeral p.place ∷ []) p.left_word p.right_word (same_behind c.in_ok-keyword.ensures (behind_edit c.in_ok-edit.ensures.0 p.edit c.in_ok-edit.ensures.3 (same_behind_two c.in_ok-base.ensures.2 (same_behind c.in_ok-number.ensures.2 p.is)))))

pub returns-in_err-at : goal.returns-in_err-at
returns-in_err-at c =
    rw c.from_residual-in_err-at.ensures (λ l h.
    let p = negative_words (words_behind c.args.line.rest.now) l (behind_free c.args.line.rest.now) h in
    c.in_err-at.ensures p.place [] (same_behind_two c.in_ok-names.ensures.2 (same_behind c.in_ok-keyword.ensures (behind_edit c.in_ok-edit.ensures.0 p.edit c.in_ok-edit.ensures.3 (same_behind_two c.in_ok-base.ensures.2 (same_behind c.in_ok-number.ensures.2 p.is))))))

pub returns-then-is_done : goal.returns-then-is_done
returns-then-is_done c =
    let one = c.in_ok-number.ensures in
    let two = c.in_ok-base.ensures in
    let three = c.in_ok-edit.ensures in
    let four = c.in_ok-keyword.ensures in
    let five = c.in_ok-names.ensures in
    let six = c.in_ok-at.ensures in
    let left = c.in_ok-names.names.left.now in
    let right = c.in_ok-names.names.right.now in
    let l = NegativeLine one.0 two.0 three.0 left right six.0 in
    let pair = step four (step_two five.2 (step_two six.2 ((c.if-is_done.ensures).0 refl))) in
    let is = on (codes "negative") (step one.2 (step_two two.2 (three.3 ∙ ap (edit_words three.0) pair))) in
    let are_words = All-cons IsWord left (right ∷ edit_names three.0) five.0 (All-cons IsWord right (edit_names three.0) five.1 three.1) in
    (l, says_words _ l is are_words (All-nil IsByte), (one.1, two.1, three.2, refl, refl, six.1))

pub returns-else-is_done : goal.returns-else-is_done
returns-else-is_done c l h =
    let p = negative_words (words_behind c.args.line.rest.now) l (behind_free c.args.line.rest.now) h in
    false≢true (c.if-is_done.ensures.1 (same_behind_two c.in_ok-at.ensures.2 (same_behind_two c.in_ok-names.ensures.2 (same_behind c.in_ok-keyword.ensures (behind_edit c.in_ok-edit.ensures.0 p.edit c.in_ok-edit.ensures.3 (same_behind_two c.in_ok-base.ensures.2 (same_behind c.in_ok-number.ensures.2 p.is)))))))
