-- The first word says which of four edits it is, and so which numbers and names stand behind it.
use Rattle.std.proofs.Common.{[], ◌∷◌, refl}
use Rattle.std.proofs.lemmas.Bool.{false≢true}
use Rattle.std.proofs.lemmas.List.Elements.{All-nil, All-cons}
use Rattle.cs_lines.proofs.OnLines.Parts.{same_behind, step, front, some_edit, delete_edit, swap_edit, insert_edit, replace_edit, no_edit}
use Rattle.cs_lines.specs.Words.Edits.{Deletes, Inserts, Replaces, Swaps}
use Rattle.cs_lines.specs.Words.Words.{IsWord}
use Rattle.cs_lines.proofs.lines.parts.take_edit.Goals as goal

pub returns-in_err-word : goal.returns-in_err-word
returns-in_err-word c =
    rw c.from_residual.ensures (λ edit others h e.
    some_edit edit others _ (c.in_err-word.ensures) e)

pub returns-in_err-place : goal.returns-in_err-place
returns-in_err-place c =
    rw c.from_residual-in_err-place.ensures (λ edit others h e.
    let one = c.in_ok-word.ensures in
    let p = delete_edit edit others _ _ (front one ((c.if-same_word.ensures).0 refl)) e in
    c.in_err-place.ensures p.place others p.is)

pub returns-in_err-before : goal.returns-in_err-before
returns-in_err-before c =
    rw c.from_residual-in_err-before.ensures (λ edit others h e.
    let one = c.in_ok-word.ensures in
    let p = insert_edit edit others _ _ h (front one ((c.if-same_word-2.ensures).0 refl)) e in
    c.in_err-before.ensures p.place (p.name ∷ others) p.is)

pub returns-in_err-replaced : goal.returns-in_err-replaced
returns-in_err-replaced c =
    rw c.from_residual-in_err-replaced.ensures (λ edit others h e.
    let one = c.in_ok-word.ensures in
    let p = replace_edit edit others _ _ h (front one ((c.if-same_word-3.ensures).0 refl)) e in
    c.in_err-replaced.ensures p.place (p.name ∷ others) p.is)

pub returns-in_err-first : goal.returns-in_err-first
returns-in_err-first c =
    rw c.from_residual-in_err-first.ensures (λ edit others h e.
    let one = c.in_ok-word.ensures in
    let p = swap_edit edit others _ _ (front one ((c.if-same_word-4.ensures).0 refl)) e in
    c.in_err-first.ensures p.place others p.is)

pub returns-in_err-put : goal.returns-in_err-put
returns-in_err-put c =
    rw c.from_residual-in_err-put.ensures (λ edit others h e.
    let one = c.in_ok-word.ensures in
    let p = insert_edit edit others _ _ h (front one ((c.if-same_word-2.ensures).0 refl)) e in
    let two = c.in_ok-before.ensures in
    c.in_err-put.ensures p.name others p.is_word (same_behind two.2 p.is))

pub returns-in_err-by : goal.returns-in_err-by
returns-in_err-by c =
    rw c.from_residual-in_err-by.ensures (λ edit others h e.
    let one = c.in_ok-word.ensures in
    let p = replace_edit edit others _ _ h (front one ((c.if-same_word-3.ensures).0 refl)) e in
    let two = c.in_ok-replaced.ensures in
    c.in_err-by.ensures p.name others p.is_word (same_behind two.2 p.is))

pub returns-in_ok-place : goal.returns-in_ok-place
returns-in_ok-place c =
    let one = c.in_ok-word.ensures in
    let two = c.in_ok-place.ensures in
    (Deletes two.0, All-nil IsWord, two.1, step (front one ((c.if-same_word.ensures).0 refl)) two.2)

pub returns-in_ok-first : goal.returns-in_ok-first
returns-in_ok-first c =
    let one = c.in_ok-word.ensures in
    let two = c.in_ok-first.ensures in
    (Swaps two.0, All-nil IsWord, two.1, step (front one ((c.if-same_word-4.ensures).0 refl)) two.2)

pub returns-in_ok-put : goal.returns-in_ok-put
returns-in_ok-put c =
    let one = c.in_ok-word.ensures in
    let two = c.in_ok-before.ensures in
    let three = c.in_ok-put.ensures in
    let name = c.in_ok-put.put.now in
    (Inserts two.0 name, All-cons IsWord name [] three.0 (All-nil IsWord), (two.1, refl), step (front one ((c.if-same_word-2.ensures).0 refl)) (step two.2 three.1))

pub returns-in_ok-by : goal.returns-in_ok-by
returns-in_ok-by c =
    let one = c.in_ok-word.ensures in
    let two = c.in_ok-replaced.ensures in
    let three = c.in_ok-by.ensures in
    let name = c.in_ok-by.by.now in
    (Replaces two.0 name, All-cons IsWord name [] three.0 (All-nil IsWord), (two.1, refl), step (front one ((c.if-same_word-3.ensures).0 refl)) (step two.2 three.1))

pub returns-else-same_word-4 : goal.returns-else-same_word-4
returns-else-same_word-4 c edit others h e =
    no_edit _ _ _ c.in_ok-word.ensures (λ e. false≢true ((c.if-same_word.ensures).1 e)) (λ e. false≢true ((c.if-same_word-2.ensures).1 e)) (λ e. false≢true ((c.if-same_word-3.ensures).1 e)) (λ e. false≢true ((c.if-same_word-4.ensures).1 e)) edit others e
