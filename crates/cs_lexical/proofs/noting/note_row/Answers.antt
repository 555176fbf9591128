-- The entry of one rule more is noted where it is behind this one, and where none is new the row stays.
use Rattle.std.proofs.Common.{◌≡◌, ◌⊎◌, ◌-◌, ap, ◌∙◌, inl, inr, List, ℕ, ⊎_elim, false, Bool}
use Rattle.std.specs.Prelude.{IsTrue, slice_index, slice_set}
use Rattle.std.proofs.lemmas.List.{set-get_or}
use Rattle.cs_lexical.proofs.Rows.{row_more_at, row_skipped_at}
use Rattle.cs_lexical.proofs.noting.note_row.Goals as goal
use Rattle.cs_lexical.proofs.noting.note_row.Goals.{then-other-rule+then-note, then-other-rule+else-note, else-other-rule}

-- where nothing was noted the row stays
kept : (row first : List ℕ) (j : ℕ) (new answer : Bool) (entry : ℕ) → answer ≡ false → IsTrue answer ⊎ (entry ≡ slice_index row j) → IsTrue new ⊎ (row ≡ first) → IsTrue new ⊎ (slice_set row j entry ≡ first)
kept row first j new answer entry not_so told before = ⊎_elim
    (λ (yes : IsTrue answer). absurd (cc (not_so, yes)))
    (λ (same : entry ≡ slice_index row j). ⊎_elim
    (λ (t : IsTrue new). inl t)
    (λ (e : row ≡ first). inr (ap (λ (v : ℕ). slice_set row j v) same ∙ set-get_or row j 0 ∙ e))
    before)
    told

pub loop-other-preserved : goal.loop-other-preserved
loop-other-preserved c =
    let i = c.loop-other.other-index in
    let rules = c.args.rules.now in
    let other = slice_index rules i in
    let j = other - c.args.rule - 1 in
    let row = c.loop-other.row in
    let inv = c.loop-other.invariant in
    let within = c.requires i 0 c.loop-other-test.true in
    elim c.if-other-rule.branch [
      | then-other-rule+then-note w ↦
          rw (w.row-is, w.new-is) (record {
            notes = row_more_at c.args.rule c.args.number c.args.row.now rules row (slice_set row j w.note.new.entry) i c.loop-other-test.true w.if-other-rule.true within (ap (λ e. slice_set row j e) w.note.ensures.entry) inv.notes;
            told = inl w.if-note.true;
          })
      | then-other-rule+else-note w ↦
          rw (w.row-is, w.new-is) (record {
            notes = row_more_at c.args.rule c.args.number c.args.row.now rules row (slice_set row j w.note.new.entry) i c.loop-other-test.true w.if-other-rule.true within (ap (λ e. slice_set row j e) w.note.ensures.entry) inv.notes;
            told = kept row c.args.row.now j c.loop-other.new w.note.result w.note.new.entry w.if-note.false w.note.ensures.told inv.told;
          })
      | else-other-rule w ↦
          rw (w.row-is, w.new-is) (record {
            notes = row_skipped_at c.args.rule c.args.number c.args.row.now rules row i c.loop-other-test.true w.if-other-rule.false inv.notes;
            told = inv.told;
          })
    ]
