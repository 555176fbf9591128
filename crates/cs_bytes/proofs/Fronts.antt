-- What tests at the front of a text say.
use Rattle.std.proofs.Common.{◌≡◌, ◌≢◌, ℕ, zero, suc, ◌+◌, ◌<◌, ◌≤◌, Bool, true, false, eqb, ◌&&◌, List, [], ◌∷◌, length, get_or, drop, Some, refl, ap, ◌∙◌, arith, eq-eqb}
use Rattle.std.specs.Prelude.{slice_get}
use Rattle.std.proofs.lemmas.Bool.{false≢true, eqb-true}
use Rattle.std.proofs.lemmas.List.{length-drop, drop-drop, drop_more}
use Rattle.std.proofs.lemmas.Bool.Decides.{nat_tests}
use Rattle.cs_bytes.specs.Places.{begins_with, begins_with_two, has_at, BeginsWith}

pub false-eqb : (a b : ℕ) → a ≢ b → eqb a b ≡ false
false-eqb a b ne = grind (arith, nat_tests)

pub and_true : (a b : Bool) → (a && b) ≡ true → (a ≡ true) × (b ≡ true)
and_true true b e = (refl, e)
and_true false b e = absurd (false≢true e)

-- ---- two bytes in front

pub BeginsWith-from_test : (a b : ℕ) (text : List ℕ) → begins_with_two a b text ≡ true → BeginsWith (a ∷ b ∷ []) text
BeginsWith-from_test a b [] e = absurd (false≢true e)
BeginsWith-from_test a b (c ∷ []) e = absurd (false≢true ((and_true _ _ e).1))
BeginsWith-from_test a b (c ∷ d ∷ text) e =
    let p : c ≡ a = eqb-true _ _ ((and_true _ _ e).0) in
    let q : d ≡ b = eqb-true d b ((and_true (eqb c a) (eqb d b) e).1) in
    cc

pub test_from_BeginsWith : (a b : ℕ) (text : List ℕ) → BeginsWith (a ∷ b ∷ []) text → begins_with_two a b text ≡ true
test_from_BeginsWith a b [] e = absurd cc
test_from_BeginsWith a b (c ∷ []) e = absurd cc
test_from_BeginsWith a b (c ∷ d ∷ text) e =
    let p : c ≡ a = cc in
    let q : d ≡ b = cc in
    rw (eq-eqb c a p, eq-eqb d b q) refl

pub test_false : (a b : ℕ) (text : List ℕ) → ¬ BeginsWith (a ∷ b ∷ []) text → begins_with_two a b text ≡ false
test_false a b text differs = by_test (begins_with_two a b text) refl
  where
    by_test : (t : Bool) → begins_with_two a b text ≡ t → t ≡ false
    by_test true e = absurd (differs (BeginsWith-from_test a b text e))
    by_test false e = refl

-- where a pair stands, two bytes are left
pub pair_within : (a b : ℕ) (text : List ℕ) (i : ℕ) → begins_with_two a b (drop i text) ≡ true → i + 2 ≤ length text
pair_within a b text i e = omega (arith, room (drop i text) e, length-drop i text)
  where
    room : (rest : List ℕ) → begins_with_two a b rest ≡ true → 2 ≤ length rest
    room [] e = absurd (false≢true e)
    room (c ∷ []) e = absurd (false≢true ((and_true _ _ e).1))
    room (c ∷ d ∷ rest) e = omega arith

pub pair_at : (a b : ℕ) (text : List ℕ) (i : ℕ) → begins_with_two a b (drop i text) ≡ (begins_with a (drop i text) && begins_with b (drop (i + 1) text))
pair_at a b text i = rw drop-drop refl

-- ---- a byte at a place

pub got_within : (xs : List ℕ) (i x : ℕ) → slice_get xs i ≡ Some x → i < length xs
got_within [] i x e = absurd cc
got_within (y ∷ xs) zero x e = omega arith
got_within (y ∷ xs) (suc i) x e = omega (arith, got_within xs i x e)

pub get_or-got : (xs : List ℕ) (i x : ℕ) → slice_get xs i ≡ Some x → get_or xs i 0 ≡ x
get_or-got [] i x e = absurd cc
get_or-got (y ∷ xs) zero x e = cc
get_or-got (y ∷ xs) (suc i) x e = get_or-got xs i x e

pub front_got : (xs : List ℕ) (i x : ℕ) → slice_get xs i ≡ Some x → drop i xs ≡ x ∷ drop (i + 1) xs
front_got xs i x e = drop_more xs i 0 (got_within xs i x e) ∙ ap (λ y. y ∷ drop (i + 1) xs) (get_or-got xs i x e)

pub has_at-got : (xs : List ℕ) (i x : ℕ) → slice_get xs i ≡ Some x → has_at xs i x ≡ true
has_at-got [] i x e = absurd cc
has_at-got (y ∷ xs) zero x e = let is : y ≡ x = cc in eq-eqb y x is
has_at-got (y ∷ xs) (suc i) x e = has_at-got xs i x e

pub front_has : (xs : List ℕ) (i x : ℕ) → has_at xs i x ≡ true → drop i xs ≡ x ∷ drop (i + 1) xs
front_has [] zero x e = absurd (false≢true e)
front_has [] (suc i) x e = absurd (false≢true e)
front_has (y ∷ xs) zero x e = ap (λ z. z ∷ xs) (eqb-true y x e)
front_has (y ∷ xs) (suc i) x e = let next : suc i + 1 ≡ suc (i + 1) = omega arith in rw next (front_has xs i x e)

pub got_at : (xs : List ℕ) (i x : ℕ) → has_at xs i x ≡ true → slice_get xs i ≡ Some x
got_at [] zero x e = absurd (false≢true e)
got_at [] (suc i) x e = absurd (false≢true e)
got_at (y ∷ xs) zero x e = ap Some (eqb-true y x e)
got_at (y ∷ xs) (suc i) x e = got_at xs i x e

pub has_within : (xs : List ℕ) (i x : ℕ) → has_at xs i x ≡ true → i < length xs
has_within xs i x e = got_within xs i x (got_at xs i x e)
