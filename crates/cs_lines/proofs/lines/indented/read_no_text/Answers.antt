-- Behind `no` stands `text`, and behind that one of two words, `lexeme` or `scan`.
use Rattle.std.proofs.Common.{ℕ, List, [], ◌∷◌, refl, sym, subst}
use Rattle.std.proofs.lemmas.Bool.{false≢true}
use Rattle.std.specs.Prelude.{codes}
use Rattle.cs_lines.proofs.OnLines.Indented.{no_text_words, no_reason, some_reason, text_word}
use Rattle.cs_lines.proofs.OnLines.Parts.{step, front}
use Rattle.cs_lines.proofs.OnLines.Splits.{behind_free}
use Rattle.cs_lines.specs.Lines.Read.{Answers}
use Rattle.cs_lines.specs.Lines.Splits.{words_behind}
use Rattle.cs_lines.proofs.lines.indented.read_no_text.Goals as goal

pub returns-in_err-keyword : goal.returns-in_err-keyword
returns-in_err-keyword c =
    rw c.from_residual.ensures (λ l h.
    let p = no_text_words (words_behind c.args.line.rest.now) l (behind_free c.args.line.rest.now) h in
    let text = text_word (words_behind c.args.line.rest.now) p in
    c.in_err-keyword.ensures text.0 text.1)

pub returns-in_err-word : goal.returns-in_err-word
returns-in_err-word c =
    rw c.from_residual-in_err-word.ensures (λ l h.
    let p = no_text_words (words_behind c.args.line.rest.now) l (behind_free c.args.line.rest.now) h in
    let one = c.in_ok-keyword.ensures in
    some_reason _ (words_behind c.args.line.rest.now) one (c.in_err-word.ensures) p)

pub returns-then-same_word : goal.returns-then-same_word
returns-then-same_word c =
    let is = step (c.in_ok-keyword.ensures) (front (c.in_ok-word.ensures) ((c.if-same_word.ensures).0 refl)) in
    subst (λ (ws : List (List ℕ)). Answers ([] ∷ [] ∷ codes "no" ∷ ws) c.read_no_lexeme.result) (sym is) c.read_no_lexeme.ensures

pub returns-then-same_word-2 : goal.returns-then-same_word-2
returns-then-same_word-2 c =
    let is = step (c.in_ok-keyword.ensures) (front (c.in_ok-word.ensures) ((c.if-same_word-2.ensures).0 refl)) in
    subst (λ (ws : List (List ℕ)). Answers ([] ∷ [] ∷ codes "no" ∷ ws) c.read_no_scan.result) (sym is) c.read_no_scan.ensures

pub returns-else-same_word-2 : goal.returns-else-same_word-2
returns-else-same_word-2 c l h =
    let p = no_text_words (words_behind c.args.line.rest.now) l (behind_free c.args.line.rest.now) h in
    let one = c.in_ok-keyword.ensures in
    let two = c.in_ok-word.ensures in
    no_reason _ _ (words_behind c.args.line.rest.now) (step one two) (λ e. false≢true ((c.if-same_word.ensures).1 e)) (λ e. false≢true ((c.if-same_word-2.ensures).1 e)) p
