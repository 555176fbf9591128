-- The size that is found is the comment's.
use Rattle.std.proofs.Common.{◌≡◌, ℕ, zero, suc, ◌+◌, Bool, true, false, cond, ◌||◌, List, [], ◌∷◌, drop, Some, None, option_map, refl, sym, ap, ◌∙◌, inl, inr, arith}
use Rattle.std.specs.Prelude.{codes}
use Rattle.std.proofs.lemmas.Bool.{false≢true}
use Rattle.cs_bytes.specs.Places.{BeginsWith, IsFirstPair, HasNoPair, begins_with_two, has_pair, line_len}
use Rattle.cs_bytes.proofs.Fronts.{BeginsWith-from_test, test_from_BeginsWith, test_false}
use Rattle.cs_ctext.specs.Comments.{IsComment, opens_comment}
use Rattle.cs_ctext.specs.Scans.{closing_size, comment_size}
use Rattle.cs_ctext.proofs.Fronts.{some_from_map}

no_pair_in_nothing : (place : ℕ) → has_pair [] place 42 47 ≡ true → ⊥
no_pair_in_nothing zero h = false≢true h
no_pair_in_nothing (suc n) h = false≢true h

pub closing_size-at : (text : List ℕ) (place : ℕ) → IsFirstPair 42 47 text place → closing_size text ≡ Some (place + 2)
closing_size-at [] place h = absurd (no_pair_in_nothing place h.here)
closing_size-at (b ∷ text) zero h = rw h.here refl
closing_size-at (b ∷ text) (suc n) h =
    let rest : closing_size text ≡ Some (n + 2) = closing_size-at text n (record { here = h.here; none_before = λ k l. h.none_before (suc k) (omega arith) }) in
    rw (h.none_before 0 (omega arith), rest) (ap Some (omega arith))

pub closing_size-none : (text : List ℕ) → HasNoPair 42 47 text → closing_size text ≡ None
closing_size-none [] h = refl
closing_size-none (b ∷ text) h = rw (h 0, closing_size-none text (λ k. h (suc k))) refl

IsFirstPair-from_size : (text : List ℕ) (size : ℕ) → closing_size text ≡ Some size → (place : ℕ) × IsFirstPair 42 47 text place × (size ≡ place + 2)
IsFirstPair-from_size [] size e = absurd cc
IsFirstPair-from_size (b ∷ text) size e = by_test (begins_with_two 42 47 (b ∷ text)) refl e (IsFirstPair-from_size text)
  where
    by_test : (t : Bool) → begins_with_two 42 47 (b ∷ text) ≡ t → cond t (Some 2) (option_map suc (closing_size text)) ≡ Some size
        → ((n : ℕ) → closing_size text ≡ Some n → (place : ℕ) × IsFirstPair 42 47 text place × (n ≡ place + 2)) → (place : ℕ) × IsFirstPair 42 47 (b ∷ text) place × (size ≡ place + 2)
    by_test true p e rest =
        let two : size ≡ 2 = cc in
        (0, record { here = p; none_before = λ k l. absurd (omega arith) }, omega arith)
    by_test false p e rest =
        let found = some_from_map suc (closing_size text) size e in
        let at = rest found.0 found.1 in
        (suc at.0, record { here = at.1.here; none_before = elim [ zero ↦ λ l. p | suc k ↦ λ l. at.1.none_before k (omega arith) ] }, omega (arith, at.2, found.2))

star_slash_differ : (text : List ℕ) → BeginsWith (codes "/*") text → begins_with_two 47 47 text ≡ false
star_slash_differ text h = test_false 47 47 text (λ g. absurd cc)

pub comment_size-comment : (text : List ℕ) (size : ℕ) → IsComment text size → comment_size text ≡ Some size
comment_size-comment text size (inl h) =
    let closing = closing_size-at (drop 2 text) h.inside h.closed in
    rw (star_slash_differ text h.opened, test_from_BeginsWith 47 42 text h.opened, closing) (ap Some (sym (omega (arith, h.ends))))
comment_size-comment text size (inr h) = rw (test_from_BeginsWith 47 47 text h.opened) (ap Some (sym h.ends))

pub IsComment-from_size : (text : List ℕ) (size : ℕ) → comment_size text ≡ Some size → IsComment text size
IsComment-from_size text size e = by_line (begins_with_two 47 47 text) refl e
  where
    closed : (t : Bool) → begins_with_two 47 42 text ≡ t → cond t (option_map (λ n. n + 2) (closing_size (drop 2 text))) None ≡ Some size → IsComment text size
    closed true p e =
        let found = some_from_map (λ n. n + 2) (closing_size (drop 2 text)) size e in
        let at = IsFirstPair-from_size (drop 2 text) found.0 found.1 in
        inl (record {
          inside = at.0;
          opened = BeginsWith-from_test 47 42 text p;
          closed = at.1;
          ends = omega (arith, at.2, found.2);
        })
    closed false p e = absurd cc

    by_line : (t : Bool) → begins_with_two 47 47 text ≡ t
        → cond t (Some (line_len (drop 2 text) + 2)) (cond (begins_with_two 47 42 text) (option_map (λ n. n + 2) (closing_size (drop 2 text))) None) ≡ Some size
        → IsComment text size
    by_line true p e = inr (record { opened = BeginsWith-from_test 47 47 text p; ends = cc })
    by_line false p e = closed (begins_with_two 47 42 text) refl e

pub no_comment_from_size : (text : List ℕ) → comment_size text ≡ None → (size : ℕ) → ¬ IsComment text size
no_comment_from_size text e size h = let f = comment_size-comment text size h in absurd cc

-- what is found behind the opener is the size of a comment that isn't a line's
opens_star : (text : List ℕ) → opens_comment text ≡ true → begins_with_two 47 47 text ≡ false → begins_with_two 47 42 text ≡ true
opens_star text e line = by_test (begins_with_two 47 42 text) refl
  where
    by_test : (t : Bool) → begins_with_two 47 42 text ≡ t → t ≡ true
    by_test true p = refl
    by_test false p = absurd (false≢true (sym line ∙ (sym (ap (λ t. t || begins_with_two 47 47 text) p) ∙ e)))

pub comment_size-closed : (text : List ℕ) (place : ℕ) → opens_comment text ≡ true → begins_with_two 47 47 text ≡ false → IsFirstPair 42 47 (drop 2 text) place → Some (place + 4) ≡ comment_size text
comment_size-closed text place e line h =
    rw (line, opens_star text e line, closing_size-at (drop 2 text) place h) (ap Some (omega arith))

pub comment_size-open : (text : List ℕ) → opens_comment text ≡ true → begins_with_two 47 47 text ≡ false → HasNoPair 42 47 (drop 2 text) → comment_size text ≡ None
comment_size-open text e line h = rw (line, opens_star text e line, closing_size-none (drop 2 text) h) refl
