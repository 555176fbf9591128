-- The words of a rule are a number, a name, `:` and names.
use Rattle.std.proofs.Common.{◌∷◌, refl, sym, subst}
use Rattle.std.proofs.lemmas.List.Elements.{All-nil, All-cons}
use Rattle.std.specs.Prelude.{codes, All}
use Rattle.cs_lines.proofs.OnLines.Forms.{says_words, rule_words}
use Rattle.cs_lines.proofs.OnLines.Parts.{same_behind, on, step}
use Rattle.cs_lines.proofs.OnLines.Spelled.{IsByte}
use Rattle.cs_lines.proofs.OnLines.Splits.{behind_free}
use Rattle.cs_lines.specs.Lines.Line.{RuleLine}
use Rattle.cs_lines.specs.Lines.Read.{names_in}
use Rattle.cs_lines.specs.Lines.Splits.{words_behind}
use Rattle.cs_lines.specs.Words.Words.{IsWord}
use Rattle.cs_lines.proofs.lines.head.read_rule.Goals as goal

pub returns-in_err-number : goal.returns-in_err-number
returns-in_err-number c =
    rw c.from_residual.ensures (λ l h.
    let p = rule_words (words_behind c.args.line.rest.now) l (behind_free c.args.line.rest.now) h in
    c.in_err-number.ensures p.number (p.left ∷ codes ":" ∷ p.right) p.is)

pub returns-in_err-left : goal.returns-in_err-left
returns-in_err-left c =
    rw c.from_residual-in_err-left.ensures (λ l h.
    let p = rule_words (words_behind c.args.line.rest.now) l (behind_free c.args.line.rest.now) h in
    let one = c.in_ok-number.ensures in
    let rest1 = same_behind one.2 p.is in
    c.in_err-left.ensures p.left (codes ":" ∷ p.right) p.is_word rest1)

pub returns-in_err-keyword : goal.returns-in_err-keyword
returns-in_err-keyword c =
    rw c.from_residual-in_err-keyword.ensures (λ l h.
    let p = rule_words (words_behind c.args.line.rest.now) l (behind_free c.args.line.rest.now) h in
    let one = c.in_ok-number.ensures in
    let rest1 = same_behind one.2 p.is in
    let two = c.in_ok-left.ensures in
    let rest2 = same_behind two.1 rest1 in
    c.in_err-keyword.ensures p.right rest2)

pub returns-in_err-right : goal.returns-in_err-right
returns-in_err-right c =
    rw c.from_residual-in_err-right.ensures (λ l h.
    let p = rule_words (words_behind c.args.line.rest.now) l (behind_free c.args.line.rest.now) h in
    let one = c.in_ok-number.ensures in
    let rest1 = same_behind one.2 p.is in
    let two = c.in_ok-left.ensures in
    let rest2 = same_behind two.1 rest1 in
    let three = c.in_ok-keyword.ensures in
    let rest3 = same_behind three rest2 in
    c.in_err-right.ensures (subst (All IsWord) (sym rest3) p.are_words))

pub returns : goal.returns
returns c =
    let one = c.in_ok-number.ensures in
    let two = c.in_ok-left.ensures in
    let three = c.in_ok-keyword.ensures in
    let four = c.in_ok-right.ensures in
    let l = RuleLine one.0 c.in_ok-left.left.now (names_in c.in_ok-right.right) in
    let is = on (codes "rule") (step one.2 (step two.1 (step three (sym four.1)))) in
    (l, says_words _ l is (All-cons IsWord _ _ two.0 four.0) (All-nil IsByte), (one.1, refl, refl))
