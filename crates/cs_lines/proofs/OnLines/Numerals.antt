-- Digits without a leading zero are the numeral of the number that they spell.
use Rattle.std.proofs.Common.{◌≡◌, ℕ, zero, suc, ◌+◌, ◌-◌, ◌*◌, ◌/◌, ◌%◌, ◌<◌, ◌≤◌, List, [], ◌∷◌, ◌++◌, ◌⊎◌, map, length, get_or, inl, inr, refl, sym, ap, ◌∙◌, subst, arith, append_assoc}
use Rattle.std.specs.Prelude.{nat_le, nat_lt, All}
use Rattle.std.specs.List.{fold}
use Rattle.std.proofs.lemmas.Bool.{cond-true, cond-false, and_from, cases_lt, cases_eq, lt-ltb, le-ltb, le-leb}
use Rattle.std.proofs.lemmas.List.Elements.{All-head, All-tail, All-cons, All-nil, All-push, All-same}
use Rattle.std.proofs.lemmas.Nat.{div-mul-add, mod-mul-add}
use Rattle.cs_bytes.specs.Classes.{is_digit}
use Rattle.cs_bytes.specs.Digits.{digit_of, number_of}
use Rattle.cs_lines.specs.Words.Words.{digits_within, numeral}
use Rattle.cs_lines.specs.Lines.Numbers.{IsDigit, IsNumeral, AreNumerals}
use Rattle.cs_lines.proofs.OnTexts.Words.{same_numeral}

-- ---- digits of a number, one more or one fewer

pub small_digits : (s n : ℕ) → n < 10 → digits_within (suc s) n ≡ (48 + n) ∷ []
small_digits s n small = cond-true (nat_lt n 10) ((48 + n) ∷ []) (digits_within s (n / 10) ++ (48 + n % 10) ∷ []) (lt-ltb n 10 small)

pub large_digits : (s n : ℕ) → 10 ≤ n → digits_within (suc s) n ≡ digits_within s (n / 10) ++ (48 + n % 10) ∷ []
large_digits s n large = cond-false (nat_lt n 10) ((48 + n) ∷ []) (digits_within s (n / 10) ++ (48 + n % 10) ∷ []) (le-ltb n 10 large)

-- more steps than enough change nothing
pub same_digits : (s t n : ℕ) → n < s → n < t → digits_within s n ≡ digits_within t n
same_digits zero t n low lower = absurd (omega (arith, low))
same_digits (suc s) zero n low lower = absurd (omega (arith, lower))
same_digits (suc s) (suc t) n low lower =
    elim (cases_lt n 10) [
      | inl small ↦ small_digits s n small ∙ sym (small_digits t n small)
      | inr large ↦
          (let less : n / 10 < s = omega (arith, low, large) in
          let lesser : n / 10 < t = omega (arith, lower, large) in
          large_digits s n large
          ∙ ap (λ (ds : List ℕ). ds ++ (48 + n % 10) ∷ []) (same_digits s t (n / 10) less lesser)
          ∙ sym (large_digits t n large))
    ]

-- a digit behind those of a number
numeral_more : (v k : ℕ) → 1 ≤ v → k < 10 → numeral (v * 10 + k) ≡ numeral v ++ (48 + k) ∷ []
numeral_more v k some low =
    let n = v * 10 + k in
    let whole : n / 10 ≡ v = div-mul-add v 10 k low in
    let rest : n % 10 ≡ k = mod-mul-add v 10 k low in
    large_digits n n (omega arith)
    ∙ ap (λ q. digits_within n q ++ (48 + n % 10) ∷ []) whole
    ∙ ap (λ r. digits_within n v ++ (48 + r) ∷ []) rest
    ∙ ap (λ (ds : List ℕ). ds ++ (48 + k) ∷ []) (same_digits n (suc v) v (omega arith) (omega arith))

-- ---- the number that digits spell

abbrev step : ℕ → ℕ → ℕ
step n b = n * 10 + digit_of b

digit_value : (b : ℕ) → IsDigit b → digit_of b ≡ b - 48
digit_value b d = cond-true (is_digit b) (b - 48) _ (and_from (nat_le 48 b) (nat_le b 57) (le-leb 48 b d.0) (le-leb b 57 d.1))

append_none : (w : List ℕ) → w ≡ w ++ []
append_none [] = refl
append_none (b ∷ w) = ap (λ (l : List ℕ). b ∷ l) (append_none w)

step_numeral : (v d : ℕ) (front : List ℕ) → 1 ≤ v → numeral v ≡ front → IsDigit d → numeral (step v d) ≡ front ++ d ∷ []
step_numeral v d front some is digit =
    let low : d - 48 < 10 = omega (arith, digit.1) in
    let back : 48 + (d - 48) ≡ d = omega (arith, digit.0) in
    ap (λ k. numeral (v * 10 + k)) (digit_value d digit)
    ∙ numeral_more v (d - 48) some low
    ∙ ap (λ b. numeral v ++ b ∷ []) back
    ∙ ap (λ (l : List ℕ). l ++ d ∷ []) is

more_numeral : (ds front : List ℕ) (v : ℕ) → 1 ≤ v → numeral v ≡ front → All IsDigit ds → numeral (fold step v ds) ≡ front ++ ds
more_numeral [] front v some is h = is ∙ append_none front
more_numeral (d ∷ ds) front v some is h =
    let next : 1 ≤ step v d = omega (arith, some) in
    more_numeral ds (front ++ d ∷ []) (step v d) next (step_numeral v d front some is (All-head IsDigit d ds h)) (All-tail IsDigit d ds h)
    ∙ append_assoc front (d ∷ []) ds

first_numeral : (d : ℕ) → IsDigit d → numeral (step 0 d) ≡ d ∷ []
first_numeral d digit =
    let low : d - 48 < 10 = omega (arith, digit.1) in
    let value : step 0 d ≡ d - 48 = omega (arith, digit_value d digit) in
    let back : 48 + (d - 48) ≡ d = omega (arith, digit.0) in
    ap numeral value ∙ small_digits (d - 48) (d - 48) low ∙ ap (λ b. b ∷ []) back

pub spelled : (d : ℕ) (ds : List ℕ) → (d ≡ 48 → ⊥) → All IsDigit (d ∷ ds) → numeral (number_of 10 (d ∷ ds)) ≡ d ∷ ds
spelled d ds leading h =
    let digit = All-head IsDigit d ds h in
    let some : 1 ≤ step 0 d =
    (let value = digit_value d digit in
    elim (cases_eq d 48) [ inl is ↦ absurd (leading is) | inr other ↦ omega (arith, value, digit.0, other) ]) in
    more_numeral ds (d ∷ []) (step 0 d) some (first_numeral d digit) (All-tail IsDigit d ds h)

-- ---- the digits of a numeral

-- the digits of n
record Shape (n : ℕ) (ds : List ℕ) : Type 0 where
  pub digit : ℕ
  pub others : List ℕ
  pub is : ds ≡ digit ∷ others
  pub digits : All IsDigit (digit ∷ others)
  pub leading : digit ≡ 48 → n ≡ 0
  pub alone : n < 10 → others ≡ []

small_shape : (n : ℕ) → n < 10 → Shape n ((48 + n) ∷ [])
small_shape n small = record {
  digit = 48 + n;
  others = [];
  is = refl;
  digits = All-cons IsDigit (48 + n) [] (omega arith, omega arith) (All-nil IsDigit);
  leading = λ nought. omega (arith, nought);
  alone = λ low. refl;
}

large_shape : (n : ℕ) (front : List ℕ) → 10 ≤ n → Shape (n / 10) front → Shape n (front ++ (48 + n % 10) ∷ [])
large_shape n front large s = record {
  digit = s.digit;
  others = s.others ++ (48 + n % 10) ∷ [];
  is = ap (λ (l : List ℕ). l ++ (48 + n % 10) ∷ []) s.is;
  digits = All-push IsDigit (s.digit ∷ s.others) (48 + n % 10) s.digits (omega arith, omega arith);
  leading = λ nought. let none = s.leading nought in absurd (omega (arith, none, large));
  alone = λ low. absurd (omega (arith, low, large));
}

shape_within : (s n : ℕ) → n < s → Shape n (digits_within s n)
shape_within zero n low = absurd (omega (arith, low))
shape_within (suc s) n low =
    elim (cases_lt n 10) [
      | inl small ↦ subst (λ (ds : List ℕ). Shape n ds) (sym (small_digits s n small)) (small_shape n small)
      | inr large ↦
          (let less : n / 10 < s = omega (arith, low, large) in
          subst (λ (ds : List ℕ). Shape n ds) (sym (large_digits s n large)) (large_shape n (digits_within s (n / 10)) large (shape_within s (n / 10) less)))
    ]

shape : (n : ℕ) → Shape n (numeral n)
shape n = shape_within (suc n) n (omega arith)

pub no_numeral : (n : ℕ) → [] ≡ numeral n → ⊥
no_numeral n e = let s = shape n in let both : [] ≡ s.digit ∷ s.others = e ∙ s.is in absurd cc

pub numeral_digits : (d : ℕ) (ds : List ℕ) (n : ℕ) → d ∷ ds ≡ numeral n → All IsDigit (d ∷ ds)
numeral_digits d ds n e = let s = shape n in All-same IsDigit (d ∷ ds) (s.digit ∷ s.others) (e ∙ s.is) s.digits

pub numeral_leading : (d : ℕ) (ds : List ℕ) (n : ℕ) → d ∷ ds ≡ numeral n → d ≡ 48 → ds ≡ []
numeral_leading d ds n e nought =
    let s = shape n in
    let both : d ∷ ds ≡ s.digit ∷ s.others = e ∙ s.is in
    let first : s.digit ≡ 48 = cc in
    let none = s.leading first in
    let low : n < 10 = omega (arith, none) in
    let alone = s.alone low in
    cc

-- the number that a numeral spells
pub number_numeral : (n : ℕ) → number_of 10 (numeral n) ≡ n
number_numeral n =
    let s = shape n in
    elim (cases_eq s.digit 48) [
      | inl nought ↦
          (let none = s.leading nought in
          let same : numeral n ≡ numeral 0 = ap numeral none in
          ap (number_of 10) same ∙ sym none)
      | inr leading ↦
          (let whole = spelled s.digit s.others leading s.digits in
          ap (number_of 10) s.is ∙ same_numeral (number_of 10 (s.digit ∷ s.others)) n (whole ∙ sym s.is))
    ]

pub numbers_numerals : (ns : List ℕ) → map (number_of 10) (map numeral ns) ≡ ns
numbers_numerals [] = refl
numbers_numerals (n ∷ ns) = ap (λ k. k ∷ map (number_of 10) (map numeral ns)) (number_numeral n) ∙ ap (λ (l : List ℕ). n ∷ l) (numbers_numerals ns)

-- ---- which words are numerals

pub not_digits : (word : List ℕ) → (All IsDigit word → ⊥) → IsNumeral word → ⊥
not_digits [] other n = no_numeral n.0 n.1
not_digits (d ∷ ds) other n = other (numeral_digits d ds n.0 n.1)

pub not_leading : (word : List ℕ) → (length word ≡ 1 → ⊥) → get_or word 0 0 ≡ 48 → IsNumeral word → ⊥
not_leading [] other nought n = no_numeral n.0 n.1
not_leading (d ∷ ds) other nought n =
    let none = numeral_leading d ds n.0 n.1 nought in
    other (ap (λ (l : List ℕ). length (d ∷ l)) none)

digits_numeral : (d : ℕ) (ds : List ℕ) → All IsDigit (d ∷ ds) → (length (d ∷ ds) ≡ 1) ⊎ (d ≡ 48 → ⊥) → IsNumeral (d ∷ ds)
digits_numeral d [] h either = (step 0 d, sym (first_numeral d (All-head IsDigit d [] h)))
digits_numeral d (e ∷ ds) h (inl one) = absurd (omega (arith, one))
digits_numeral d (e ∷ ds) h (inr other) = (number_of 10 (d ∷ e ∷ ds), sym (spelled d (e ∷ ds) other h))

pub are_numeral : (word : List ℕ) → (length word ≡ 0 → ⊥) → All IsDigit word → (length word ≡ 1) ⊎ (get_or word 0 0 ≡ 48 → ⊥) → IsNumeral word
are_numeral [] some h either = absurd (some refl)
are_numeral (d ∷ ds) some h either = digits_numeral d ds h either

pub numeral_all : (word : List ℕ) → IsNumeral word → All IsDigit word
numeral_all [] n = absurd (no_numeral n.0 n.1)
numeral_all (d ∷ ds) n = numeral_digits d ds n.0 n.1

-- ---- lists of them

pub numerals_more : (all : List (List ℕ)) (word : List ℕ) (behind : List (List ℕ)) (n : ℕ) → all ≡ word ∷ behind → word ≡ numeral n → AreNumerals behind → AreNumerals all
numerals_more all word behind n p e s =
    (n ∷ s.0, p ∙ ap (λ (w : List ℕ). w ∷ behind) e ∙ ap (λ (ws : List (List ℕ)). numeral n ∷ ws) s.1)

numerals_parts : (ns : List ℕ) (word : List ℕ) (behind : List (List ℕ)) → word ∷ behind ≡ map numeral ns → IsNumeral word × AreNumerals behind
numerals_parts [] word behind e = absurd cc
numerals_parts (n ∷ ns) word behind e =
    let first : word ≡ numeral n = cc in
    let rest : behind ≡ map numeral ns = cc in
    ((n, first), (ns, rest))

pub numerals_front : (all : List (List ℕ)) (word : List ℕ) (behind : List (List ℕ)) → all ≡ word ∷ behind → AreNumerals all → IsNumeral word
numerals_front all word behind p s = (numerals_parts s.0 word behind (sym p ∙ s.1)).0

pub numerals_less : (all : List (List ℕ)) (word : List ℕ) (behind : List (List ℕ)) → all ≡ word ∷ behind → AreNumerals all → AreNumerals behind
numerals_less all word behind p s = (numerals_parts s.0 word behind (sym p ∙ s.1)).1

pub numerals_back : (all : List (List ℕ)) → AreNumerals all → map numeral (map (number_of 10) all) ≡ all
numerals_back all s =
    ap (λ (ws : List (List ℕ)). map numeral (map (number_of 10) ws)) s.1 ∙ ap (map numeral) (numbers_numerals s.0) ∙ sym s.1
