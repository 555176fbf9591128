-- The words of a token are a number and a name, and nothing more.
use Rattle.std.proofs.Common.{[], ◌∷◌, refl}
use Rattle.std.proofs.lemmas.Bool.{false≢true}
use Rattle.std.proofs.lemmas.List.Elements.{All-nil, All-cons}
use Rattle.std.specs.Prelude.{codes}
use Rattle.cs_lines.proofs.OnLines.Forms.{says_words, token_words}
use Rattle.cs_lines.proofs.OnLines.Parts.{same_behind, on, step}
use Rattle.cs_lines.proofs.OnLines.Spelled.{IsByte}
use Rattle.cs_lines.proofs.OnLines.Splits.{behind_free}
use Rattle.cs_lines.specs.Lines.Line.{TokenLine}
use Rattle.cs_lines.specs.Lines.Splits.{words_behind}
use Rattle.cs_lines.specs.Words.Words.{IsWord}
use Rattle.cs_lines.proofs.lines.head.read_token.Goals as goal

pub returns-in_err-number : goal.returns-in_err-number
returns-in_err-number c =
    rw c.from_residual.ensures (λ l h.
    let p = token_words (words_behind c.args.line.rest.now) l (behind_free c.args.line.rest.now) h in
    c.in_err-number.ensures p.number (p.name ∷ []) p.is)

pub returns-in_err-name : goal.returns-in_err-name
returns-in_err-name c =
    rw c.from_residual-in_err-name.ensures (λ l h.
    let p = token_words (words_behind c.args.line.rest.now) l (behind_free c.args.line.rest.now) h in
    let one = c.in_ok-number.ensures in
    let rest1 = same_behind one.2 p.is in
    c.in_err-name.ensures p.name [] p.is_word rest1)

pub returns-then-is_done : goal.returns-then-is_done
returns-then-is_done c =
    let one = c.in_ok-number.ensures in
    let two = c.in_ok-name.ensures in
    let l = TokenLine one.0 c.in_ok-name.name.now in
    let is = on (codes "token") (step one.2 (step two.1 ((c.if-is_done.ensures).0 refl))) in
    (l, says_words _ l is (All-cons IsWord _ [] two.0 (All-nil IsWord)) (All-nil IsByte), (one.1, refl))

pub returns-else-is_done : goal.returns-else-is_done
returns-else-is_done c l h =
    let p = token_words (words_behind c.args.line.rest.now) l (behind_free c.args.line.rest.now) h in
    let one = c.in_ok-number.ensures in
    let rest1 = same_behind one.2 p.is in
    let two = c.in_ok-name.ensures in
    let rest2 = same_behind two.1 rest1 in
    false≢true ((c.if-is_done.ensures).1 rest2)
