-- Behind two empty words stands one of four words, which says how the words behind it are read.
use Rattle.std.proofs.Common.{◌≡◌, ℕ, List, [], ◌∷◌, refl, sym, ◌∙◌, subst}
use Rattle.std.proofs.lemmas.Bool.{false≢true}
use Rattle.cs_lines.proofs.OnLines.Indented.{IsKnown, indented_words, not_known}
use Rattle.cs_lines.proofs.OnLines.Parts.{same_front, same_behind, step, front}
use Rattle.cs_lines.proofs.OnLines.Splits.{behind_free}
use Rattle.cs_lines.specs.Lines.Read.{Answers}
use Rattle.cs_lines.specs.Lines.Splits.{words_behind}
use Rattle.cs_lines.proofs.lines.indented.read_indented.Goals as goal

pub returns-in_err-keyword : goal.returns-in_err-keyword
returns-in_err-keyword c =
    rw c.from_residual.ensures (λ l h.
    let p = indented_words (words_behind c.args.line.rest.now) l (behind_free c.args.line.rest.now) h in
    c.in_err-keyword.ensures (p.word ∷ p.others) p.is)

pub returns-in_err-word : goal.returns-in_err-word
returns-in_err-word c =
    rw c.from_residual-in_err-word.ensures (λ l h.
    let p = indented_words (words_behind c.args.line.rest.now) l (behind_free c.args.line.rest.now) h in
    let one = c.in_ok-keyword.ensures in
    let rest1 = same_behind one p.is in
    (let both : [] ≡ p.word ∷ p.others = sym (c.in_err-word.ensures) ∙ rest1 in absurd cc))

pub returns-then-same_word : goal.returns-then-same_word
returns-then-same_word c =
    let is = step (c.in_ok-keyword.ensures) (front (c.in_ok-word.ensures) ((c.if-same_word.ensures).0 refl)) in
    subst (λ (ws : List (List ℕ)). Answers ([] ∷ ws) c.read_tokens.result) (sym is) c.read_tokens.ensures

pub returns-then-same_word-2 : goal.returns-then-same_word-2
returns-then-same_word-2 c =
    let is = step (c.in_ok-keyword.ensures) (front (c.in_ok-word.ensures) ((c.if-same_word-2.ensures).0 refl)) in
    subst (λ (ws : List (List ℕ)). Answers ([] ∷ ws) c.read_text.result) (sym is) c.read_text.ensures

pub returns-then-same_word-3 : goal.returns-then-same_word-3
returns-then-same_word-3 c =
    let is = step (c.in_ok-keyword.ensures) (front (c.in_ok-word.ensures) ((c.if-same_word-3.ensures).0 refl)) in
    subst (λ (ws : List (List ℕ)). Answers ([] ∷ ws) c.read_derivation.result) (sym is) c.read_derivation.ensures

pub returns-then-same_word-4 : goal.returns-then-same_word-4
returns-then-same_word-4 c =
    let is = step (c.in_ok-keyword.ensures) (front (c.in_ok-word.ensures) ((c.if-same_word-4.ensures).0 refl)) in
    subst (λ (ws : List (List ℕ)). Answers ([] ∷ ws) c.read_no_text.result) (sym is) c.read_no_text.ensures

pub returns-else-same_word-4 : goal.returns-else-same_word-4
returns-else-same_word-4 c l h =
    let p = indented_words (words_behind c.args.line.rest.now) l (behind_free c.args.line.rest.now) h in
    let one = c.in_ok-keyword.ensures in
    let rest1 = same_behind one p.is in
    let two = c.in_ok-word.ensures in
    let same = same_front two rest1 in
    let known = subst IsKnown (sym same) p.known in
    not_known _ (λ e. false≢true ((c.if-same_word.ensures).1 e)) (λ e. false≢true ((c.if-same_word-2.ensures).1 e)) (λ e. false≢true ((c.if-same_word-3.ensures).1 e)) (λ e. false≢true ((c.if-same_word-4.ensures).1 e)) known
