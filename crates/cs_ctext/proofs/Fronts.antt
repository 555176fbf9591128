-- What opens a comment at the front of a text.
use Rattle.std.proofs.Common.{◌≡◌, ℕ, ◌+◌, ◌-◌, ◌≤◌, Bool, true, false, ◌||◌, List, length, Option, Some, None, option_map, refl, inl, inr, arith}
use Rattle.cs_bytes.specs.Places.{begins_with_two}
use Rattle.cs_bytes.proofs.Fronts.{BeginsWith-from_test, test_from_BeginsWith, pair_within}
use Rattle.cs_ctext.specs.Comments.{OpensComment, opens_comment}

pub some_from_map : (f : ℕ → ℕ) (found : Option ℕ) (n : ℕ) → option_map f found ≡ Some n → (m : ℕ) × (found ≡ Some m) × (f m ≡ n)
some_from_map f None n e = absurd cc
some_from_map f (Some m) n e = (m, refl, cc)

pub OpensComment-from_test : (text : List ℕ) → opens_comment text ≡ true → OpensComment text
OpensComment-from_test text e = by_test (begins_with_two 47 42 text) refl e
  where
    by_test : (t : Bool) → begins_with_two 47 42 text ≡ t → (t || begins_with_two 47 47 text) ≡ true → OpensComment text
    by_test true p e = inl (BeginsWith-from_test 47 42 text p)
    by_test false p e = inr (BeginsWith-from_test 47 47 text e)

pub test_from_OpensComment : (text : List ℕ) → OpensComment text → opens_comment text ≡ true
test_from_OpensComment text (inl h) = rw (test_from_BeginsWith 47 42 text h) refl
test_from_OpensComment text (inr h) = by_test (begins_with_two 47 42 text)
  where
    by_test : (t : Bool) → (t || begins_with_two 47 47 text) ≡ true
    by_test true = refl
    by_test false = test_from_BeginsWith 47 47 text h

pub comment_within : (text : List ℕ) → opens_comment text ≡ true → 2 ≤ length text
comment_within text e = by_test (begins_with_two 47 42 text) refl e
  where
    by_test : (t : Bool) → begins_with_two 47 42 text ≡ t → (t || begins_with_two 47 47 text) ≡ true → 2 ≤ length text
    by_test true p e = omega (arith, pair_within 47 42 text 0 p)
    by_test false p e = omega (arith, pair_within 47 47 text 0 e)

pub behind : (at n : ℕ) → (at + n) - at ≡ n
behind at n = omega arith
