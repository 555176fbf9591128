-- Sets and tables that are made by a test, and what lists of those that are so have.
use Rattle.std.proofs.Common.{◌≡◌, ◌⊎◌, ℕ, zero, suc, ◌<◌, ◌≤◌, Bool, true, false, List, [], ◌∷◌, map, length, refl, sym, ap, ◌∙◌, subst, inl, inr, ⊎_elim, arith}
use Rattle.std.specs.Prelude.{◌==◌, ◌||◌, All}
use Rattle.std.specs.List.{list_any, range_with_len}
use Rattle.std.proofs.lemmas.Bool.{cases_lt, eq-eqb, eqb-true}
use Rattle.std.proofs.lemmas.List.{get_or_past}
use Rattle.std.proofs.lemmas.List.FromFn.{length-map-range_with_len, get_or-map-range_with_len}
use Rattle.cs_grammar.specs.Grammar.{IsNumberOf}
use Rattle.cs_grammar.specs.declared.symbol.Mark.{Mark}
use Rattle.cs_grammar.specs.declared.symbol.Mark.TheVariants as marks
use Rattle.cs_goals.proofs.Members.{Among}
use Rattle.cs_closed.specs.Closed.Sets.{IsIn, IsPair}
use Rattle.cs_mutate.specs.Kept.{is_same_mark}
use Rattle.cs_verdicts.specs.Closed.Closed.{AreThose}

-- ---- those of a list that are so

module _ {A : Type 0} (IsSo : A → Type 0) where
  pub those_in : (xs those : List A) (x : A) → AreThose IsSo xs those → Among x those → IsSo x × Among x xs
  those_in [] those x are h = absurd (subst (λ (l : List A). Among x l) are h)
  those_in (y ∷ ys) those x are h =
      ⊎_elim
      (λ kept.
      ⊎_elim (λ here. (subst IsSo (sym here) kept.0, inl here))
      (λ later. let r = those_in ys kept.1.0 x kept.1.2 later in (r.0, inr r.1))
      (subst (λ (l : List A). Among x l) kept.1.1 h))
      (λ left. let r = those_in ys those x left.1 h in (r.0, inr r.1))
      are

  pub those_has : (xs those : List A) (x : A) → AreThose IsSo xs those → Among x xs → IsSo x → Among x those
  those_has [] those x are h so = absurd h
  those_has (y ∷ ys) those x are h so =
      ⊎_elim
      (λ kept.
      subst (λ (l : List A). Among x l) (sym kept.1.1)
      (⊎_elim (λ here. inl here) (λ later. inr (those_has ys kept.1.0 x kept.1.2 later so)) h))
      (λ left. ⊎_elim (λ here. absurd (left.0 (subst IsSo here so))) (λ later. those_has ys those x left.1 later so) h)
      are

-- ---- tests

or_parts : (b c : Bool) → (b || c) ≡ true → (b ≡ true) ⊎ (c ≡ true)
or_parts true c h = inl refl
or_parts false c h = inr h

or_right : (b c : Bool) → c ≡ true → (b || c) ≡ true
or_right true c h = refl
or_right false c h = h

module _ {A : Type 0} (same : A → A → Bool) (same_is : (x y : A) → same x y ≡ true → y ≡ x) (is_same : (x : A) → same x x ≡ true) where
  pub any_among : (x : A) (xs : List A) → list_any (λ y. same x y) xs ≡ true → Among x xs
  any_among x [] h = absurd cc
  any_among x (y ∷ ys) h =
      ⊎_elim (λ here. inl (sym (same_is x y here))) (λ later. inr (any_among x ys later)) (or_parts (same x y) (list_any (λ z. same x z) ys) h)

  pub among_any : (x : A) (xs : List A) → Among x xs → list_any (λ y. same x y) xs ≡ true
  among_any x [] h = absurd h
  among_any x (y ∷ ys) h =
      ⊎_elim
      (λ here. ap (λ (b : Bool). b || list_any (λ z. same x z) ys) (subst (λ (z : A). same x z ≡ true) here (is_same x)))
      (λ later. or_right (same x y) (list_any (λ z. same x z) ys) (among_any x ys later))
      h

abbrev pub has_number : List ℕ → ℕ → Bool
has_number xs n = list_any (λ m. n == m) xs

pub number_among : (n : ℕ) (xs : List ℕ) → has_number xs n ≡ true → Among n xs
number_among n xs h = any_among (λ (x y : ℕ). x == y) (λ x y e. sym (eqb-true x y e)) (λ x. eq-eqb x x refl) n xs h

pub among_number : (n : ℕ) (xs : List ℕ) → Among n xs → has_number xs n ≡ true
among_number n xs h = among_any (λ (x y : ℕ). x == y) (λ x y e. sym (eqb-true x y e)) (λ x. eq-eqb x x refl) n xs h

same_mark_is : (x y : Mark) → is_same_mark x y ≡ true → y ≡ x
same_mark_is marks.Begin marks.Begin h = refl
same_mark_is marks.Begin (marks.Token b) h = absurd cc
same_mark_is marks.Begin marks.End h = absurd cc
same_mark_is (marks.Token a) marks.Begin h = absurd cc
same_mark_is (marks.Token a) (marks.Token b) h = ap marks.Token (sym (eqb-true a b h))
same_mark_is (marks.Token a) marks.End h = absurd cc
same_mark_is marks.End marks.Begin h = absurd cc
same_mark_is marks.End (marks.Token b) h = absurd cc
same_mark_is marks.End marks.End h = refl

is_same_mark_itself : (x : Mark) → is_same_mark x x ≡ true
is_same_mark_itself marks.Begin = refl
is_same_mark_itself (marks.Token a) = eq-eqb a a refl
is_same_mark_itself marks.End = refl

abbrev pub has_mark : List Mark → Mark → Bool
has_mark xs m = list_any (λ y. is_same_mark m y) xs

pub mark_among : (m : Mark) (xs : List Mark) → has_mark xs m ≡ true → Among m xs
mark_among m xs h = any_among is_same_mark same_mark_is is_same_mark_itself m xs h

pub among_mark : (m : Mark) (xs : List Mark) → Among m xs → has_mark xs m ≡ true
among_mark m xs h = among_any is_same_mark same_mark_is is_same_mark_itself m xs h

-- ---- sets by a test

abbrev pub set_by : (ℕ → Bool) → ℕ → List Bool
set_by test many = map test (range_with_len 1 many)

pub in_set : (test : ℕ → Bool) (many n : ℕ) → IsIn (set_by test many) n → IsNumberOf many n × (test n ≡ true)
in_set test many zero h = absurd cc
in_set test many (suc k) h =
    ⊎_elim
    (λ (low : k < many).
    ((omega arith, omega (arith, low)), sym (get_or-map-range_with_len test 1 many k (suc k) false low (omega arith)) ∙ h))
    (λ (past : many ≤ k).
    let long = length-map-range_with_len test 1 many in
    absurd (let none = get_or_past (set_by test many) k false (omega (arith, long, past)) in let both : false ≡ true = sym none ∙ h in cc))
    (cases_lt k many)

pub set_has : (test : ℕ → Bool) (many n : ℕ) → IsNumberOf many n → test n ≡ true → IsIn (set_by test many) n
set_has test many zero is h = let low = is.0 in absurd (omega (arith, low))
set_has test many (suc k) is h = let high = is.1 in get_or-map-range_with_len test 1 many k (suc k) false (omega (arith, high)) (omega arith) ∙ h

pub set_long : (test : ℕ → Bool) (many : ℕ) → length (set_by test many) ≡ many
set_long test many = length-map-range_with_len test 1 many

-- and tables: a set for each second number
abbrev pub table_by : (ℕ → ℕ → Bool) → ℕ → ℕ → List (List Bool)
table_by test firsts seconds = map (λ m. set_by (λ n. test n m) firsts) (range_with_len 1 seconds)

pub in_table : (test : ℕ → ℕ → Bool) (firsts seconds n m : ℕ) → IsPair (table_by test firsts seconds) n m → IsNumberOf firsts n × IsNumberOf seconds m × (test n m ≡ true)
in_table test firsts seconds n zero h = absurd (none n h)
  where
    none : (k : ℕ) → IsIn [] k → ⊥
    none zero e = absurd cc
    none (suc k) e = absurd cc
in_table test firsts seconds n (suc k) h =
    ⊎_elim
    (λ (low : k < seconds).
    let row = get_or-map-range_with_len (λ m. set_by (λ i. test i m) firsts) 1 seconds k (suc k) [] low (omega arith) in
    let is = in_set (λ i. test i (suc k)) firsts n (subst (λ (s : List Bool). IsIn s n) row h) in
    (is.0, (omega arith, omega (arith, low)), is.1))
    (λ (past : seconds ≤ k).
    let long = length-map-range_with_len (λ m. set_by (λ i. test i m) firsts) 1 seconds in
    absurd (none n (subst (λ (s : List Bool). IsIn s n) (get_or_past (table_by test firsts seconds) k [] (omega (arith, long, past))) h)))
    (cases_lt k seconds)
  where
    none : (j : ℕ) → IsIn [] j → ⊥
    none zero e = absurd cc
    none (suc j) e = absurd cc

pub table_has : (test : ℕ → ℕ → Bool) (firsts seconds n m : ℕ) → IsNumberOf firsts n → IsNumberOf seconds m → test n m ≡ true → IsPair (table_by test firsts seconds) n m
table_has test firsts seconds n zero is of h = let low = of.0 in absurd (omega (arith, low))
table_has test firsts seconds n (suc k) is of h =
    let high = of.1 in
    let row = get_or-map-range_with_len (λ m. set_by (λ i. test i m) firsts) 1 seconds k (suc k) [] (omega (arith, high)) (omega arith) in
    subst (λ (s : List Bool). IsIn s n) (sym row) (set_has (λ i. test i (suc k)) firsts n is h)

pub table_long : (test : ℕ → ℕ → Bool) (firsts seconds : ℕ) → length (table_by test firsts seconds) ≡ seconds
table_long test firsts seconds = length-map-range_with_len (λ m. set_by (λ i. test i m) firsts) 1 seconds

pub table_rows : (test : ℕ → ℕ → Bool) (firsts seconds : ℕ) → All (λ set. length set ≤ firsts) (table_by test firsts seconds)
table_rows test firsts seconds k d low =
    let long = table_long test firsts seconds in
    let row = get_or-map-range_with_len (λ m. set_by (λ i. test i m) firsts) 1 seconds k (suc k) d (omega (arith, low, long)) (omega arith) in
    let many = set_long (λ i. test i (suc k)) firsts in
    subst (λ (s : List Bool). length s ≤ firsts) (sym row) (omega (arith, many))
