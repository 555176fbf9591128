-- The word behind `closed` names a set or a row, which says how the words behind it are read.
use Rattle.std.proofs.Common.{◌≡◌, ℕ, List, [], ◌∷◌, sym, ◌∙◌, subst, inl, inr}
use Rattle.std.specs.Prelude.{codes}
use Rattle.cs_lines.proofs.OnLines.Forms.{closed_words}
use Rattle.cs_lines.proofs.OnLines.Parts.{same_front, front}
use Rattle.cs_lines.proofs.OnLines.Splits.{behind_free}
use Rattle.cs_lines.specs.Lines.Read.{Answers}
use Rattle.cs_lines.specs.Lines.Splits.{words_behind}
use Rattle.cs_lines.specs.Lines.Texts.{set_word, row_word}
use Rattle.cs_lines.proofs.lines.head.read_closed.Goals as goal

pub returns-in_err-word : goal.returns-in_err-word
returns-in_err-word c =
    rw c.from_residual.ensures (λ l h.
    let none = c.in_err-word.ensures in
    elim (closed_words (words_behind c.args.line.rest.now) l (behind_free c.args.line.rest.now) h) [
      | inl set ↦ (let both : [] ≡ set_word set.kind ∷ set.named = sym none ∙ set.is in absurd cc)
      | inr row ↦ (let both : [] ≡ row_word row.kind ∷ row.name ∷ codes ":" ∷ row.named = sym none ∙ row.is in absurd cc)
    ])

pub returns-in-Some : goal.returns-in-Some
returns-in-Some c =
    let is = front (c.in_ok-word.ensures) c.in-Some.ensures in
    subst (λ (ws : List (List ℕ)). Answers (codes "closed" ∷ ws) c.read_set.result) (sym is) c.read_set.ensures

pub returns-in_err-row : goal.returns-in_err-row
returns-in_err-row c =
    rw c.from_residual-in_err-row.ensures (λ l h.
    let one = c.in_ok-word.ensures in
    elim (closed_words (words_behind c.args.line.rest.now) l (behind_free c.args.line.rest.now) h) [
      | inl set ↦ c.in_default.ensures set.kind (same_front one set.is)
      | inr row ↦ c.in_err-row.ensures row.kind (same_front one row.is)
    ])

pub returns : goal.returns
returns c =
    let is = front (c.in_ok-word.ensures) (c.in_ok-row.ensures) in
    subst (λ (ws : List (List ℕ)). Answers (codes "closed" ∷ ws) c.read_row.result) (sym is) c.read_row.ensures
