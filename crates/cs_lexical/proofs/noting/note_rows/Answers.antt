-- The row of one rule more is noted for the rules behind it, and where none is new the rows stay.
use Rattle.std.proofs.Common.{◌≡◌, ◌⊎◌, ◌-◌, [], ap, sym, ◌∙◌, inl, inr, List, ℕ, arith, length, ⊎_elim, subst, false, Bool, refl, Vec, Global, ◌<◌}
use Rattle.std.specs.Prelude.{IsTrue, slice_index, slice_index_or, slice_set}
use Rattle.std.proofs.lemmas.List.{map-set, length-map, set-get_or}
use Rattle.std.specs.Vec.{with_items}
use Rattle.cs_scanner.proofs.OnLexeme.Lists.{written}
use Rattle.cs_grammar.specs.Grammar.{IsNumberOf}
use Rattle.cs_lexical.specs.Least.{lists}
use Rattle.cs_lexical.specs.Noting.{NotesRow}
use Rattle.cs_lexical.proofs.Rows.{items_at, long_behind, rows_kept, rows_more_at}
use Rattle.cs_lexical.proofs.noting.note_rows.Goals as goal
use Rattle.cs_lexical.proofs.noting.note_rows.Goals.{then-note_row, else-note_row}

-- where nothing was noted the rows stay
kept : (rows first : List (List ℕ)) (k : ℕ) (new answer : Bool) (row : List ℕ) → answer ≡ false → IsTrue answer ⊎ (row ≡ slice_index_or rows k []) → IsTrue new ⊎ (rows ≡ first) → IsTrue new ⊎ (slice_set rows k row ≡ first)
kept rows first k new answer row not_so told before = ⊎_elim
    (λ (yes : IsTrue answer). absurd (cc (not_so, yes)))
    (λ (same : row ≡ slice_index_or rows k []). ⊎_elim
    (λ (t : IsTrue new). inl t)
    (λ (e : rows ≡ first). inr (ap (λ (v : List ℕ). slice_set rows k v) same ∙ set-get_or rows k [] ∙ e))
    before)
    told

pub note_row-requires : goal.note_row-requires
note_row-requires c = λ k d less.
    let i = c.loop-rule.rule-index in
    let rules = c.args.rules.now in
    let rule = slice_index rules i in
    let number = c.requires.rules i 0 c.loop-rule-test.true in
    let other = c.requires.rules k d less in
    let many = c.loop-rule.auto.rows in
    let place = c.place_of.ensures in
    let at = items_at c.loop-rule.rows c.place_of.result c.index-rows-place_of.result (omega (arith, place, number.0, number.1, many)) c.index-rows-place_of.is in
    let value = c.deref_mut.ensures.value ∙ ap (λ (v : Vec ℕ Global). v.items) (sym c.index-rows-place_of.is) ∙ sym at in
    let now : c.deref_mut.result.now ≡ slice_index_or (lists c.loop-rule.rows) (rule - 1) [] = value ∙ ap (λ (q : ℕ). slice_index_or (lists c.loop-rule.rows) q []) place in
    let long = long_behind (length c.args.rows.now) (lists c.loop-rule.rows) rule c.loop-rule.invariant.are number.0 number.1 in
    omega (arith, long, ap (λ (l : List ℕ). length l) now, other.1)

pub loop-rule-preserved : goal.loop-rule-preserved
loop-rule-preserved c =
    let i = c.loop-rule.rule-index in
    let rules = c.args.rules.now in
    let rule = slice_index rules i in
    let rows = lists c.loop-rule.rows in
    let first = lists c.args.rows.now in
    let inv = c.loop-rule.invariant in
    let number = c.requires.rules i 0 c.loop-rule-test.true in
    let many = c.loop-rule.auto.rows in
    let place = c.place_of.ensures in
    let at = items_at c.loop-rule.rows c.place_of.result c.index-rows-place_of.result (omega (arith, place, number.0, number.1, many)) c.index-rows-place_of.is in
    let value = c.deref_mut.ensures.value ∙ ap (λ (v : Vec ℕ Global). v.items) (sym c.index-rows-place_of.is) ∙ sym at in
    let now : c.deref_mut.result.now ≡ slice_index_or rows (rule - 1) [] = value ∙ ap (λ (q : ℕ). slice_index_or rows q []) place in
    let row = c.note_row.new.row in
    let R : List ℕ → Type 0 = λ l. NotesRow rule c.args.number rules l row in
    let notes : R (slice_index_or rows (rule - 1) []) = subst R now c.note_row.ensures.row in
    let T : List ℕ → Type 0 = λ l. IsTrue c.note_row.result ⊎ (row ≡ l) in
    let told : T (slice_index_or rows (rule - 1) []) = subst T now c.note_row.ensures.told in
    let many_first : length first ≡ length c.args.rows.now = length-map c.args.rows.now (λ v. v.items) in
    let inside : IsNumberOf (length first) rule = (number.0, omega (arith, number.1, many_first)) in
    let short : rule - 1 < length rows = omega (arith, number.0, number.1, many, length-map c.loop-rule.rows (λ v. v.items)) in
    let same : length row ≡ length (slice_index_or rows (rule - 1) []) = notes.same in
    let v = slice_index_or c.loop-rule.rows c.place_of.result c.index-rows-place_of.result in
    let whole = written v.items row v.len (sym v.ok.0) (omega (arith, c.note_row.ensures.row.same, ap (λ (l : List ℕ). length l) c.deref_mut.ensures.value, v.ok.0)) in
    let set_is : lists (slice_set c.loop-rule.rows c.place_of.result (with_items v row)) ≡ slice_set rows (rule - 1) row =
    map-set (λ (v : Vec ℕ Global). v.items) c.loop-rule.rows c.place_of.result (with_items v row)
    ∙ ap (λ (l : List ℕ). slice_set rows c.place_of.result l) whole
    ∙ ap (λ (q : ℕ). slice_set rows q row) place in
    let notes_next = rows_more_at c.args.number rules first rows (slice_set rows (rule - 1) row) row i c.loop-rule-test.true inside notes refl inv.notes in
    let are_next = rows_kept (length c.args.rows.now) rows (slice_set rows (rule - 1) row) (rule - 1) row inv.are short same refl in
    elim c.if-note_row.branch [
      | then-note_row w ↦ rw (w.new-is, set_is) (record { notes = notes_next; are = are_next; told = inl w.if-note_row.true })
      | else-note_row w ↦ rw (w.new-is, set_is) (record { notes = notes_next; are = are_next; told = kept rows first (rule - 1) c.loop-rule.new c.note_row.result row w.if-note_row.false told inv.told })
    ]
