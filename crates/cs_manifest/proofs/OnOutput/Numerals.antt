-- Digits of a number that counts up.
use Rattle.std.proofs.Common.{◌≡◌, cond, arith, ℕ, ◌+◌, ◌-◌, ◌/◌, ◌%◌, ◌^◌, ◌<◌, ◌≤◌, List, [], ◌∷◌, ◌++◌, length, length-append, get_or, set, take, ap, sym, ◌∙◌, inl, inr, Bool, eqb, eq-eqb, ne_eqb}
use Rattle.std.specs.Fmt.{decimal}
use Rattle.std.proofs.Math.Seq.{get_or-append_seam, set-append_seam, take-set-lt}
use Rattle.std.proofs.lemmas.Bool.{cases_lt}
use Rattle.std.proofs.lemmas.Fmt.{decimal_digit, decimal_step}
use Rattle.std.proofs.lemmas.List.{get_or-take, length-take-le}

-- the digits of so many tens
abbrev tens : ℕ → List ℕ
tens n = cond (eqb n 0) [] (decimal n)

-- a number is its tens and its last digit
last_behind : (n : ℕ) → n < 2 ^ 64 → decimal n ≡ tens (n / 10) ++ (48 + n % 10) ∷ []
last_behind n small =
    elim (cases_lt n 10) [
      | inl one ↦
          let digit : n ≡ n % 10 = omega arith in
          decimal_digit n one ∙ ap (λ (d : ℕ). (48 + d) ∷ []) digit
          ∙ ap (λ (none : Bool). cond none [] (decimal (n / 10)) ++ (48 + n % 10) ∷ []) (sym (eq-eqb (n / 10) 0 (omega arith)))
      | inr more ↦
          decimal_step n more small
          ∙ ap (λ (none : Bool). cond none [] (decimal (n / 10)) ++ (48 + n % 10) ∷ []) (sym (ne_eqb (n / 10) 0 (λ e. omega arith)))
    ]

-- the last digit of a number's digits
last_is : (digits front : List ℕ) (len digit : ℕ) → len ≤ length digits → take len digits ≡ front ++ digit ∷ [] → (len ≡ length front + 1) × (get_or digits (len - 1) 0 ≡ digit)
last_is digits front len digit within is =
    let long : len ≡ length front + 1 = omega (arith, length-take-le len digits within, ap length is, length-append front (digit ∷ [])) in
    let at : len - 1 ≡ length front = omega (arith, long) in (
      long,
      sym (get_or-take len digits (len - 1) 0 (omega (arith, long)))
          ∙ ap (λ (ds : List ℕ). get_or ds (len - 1) 0) is
          ∙ ap (λ (i : ℕ). get_or (front ++ digit ∷ []) i 0) at
          ∙ get_or-append_seam front digit [] 0,
    )

-- the digits with another last one
last_set : (digits front : List ℕ) (len digit other : ℕ) → len ≤ length digits → take len digits ≡ front ++ digit ∷ [] → take len (set digits (len - 1) other) ≡ front ++ other ∷ []
last_set digits front len digit other within is =
    let long = (last_is digits front len digit within is).0 in
    let at : len - 1 ≡ length front = omega (arith, long) in
    take-set-lt len digits (len - 1) other (omega (arith, long))
    ∙ ap (λ (ds : List ℕ). set ds (len - 1) other) is
    ∙ ap (λ (i : ℕ). set (front ++ digit ∷ []) i other) at
    ∙ set-append_seam front digit [] other

-- where the last digit is no 9, a number's successor has the same digits but for it
pub raised : (n len : ℕ) (digits : List ℕ) → n + 1 < 2 ^ 64 → len ≤ length digits → take len digits ≡ decimal n → get_or digits (len - 1) 0 < 57
    → take len (set digits (len - 1) (get_or digits (len - 1) 0 + 1)) ≡ decimal (n + 1)
raised n len digits small within is below =
    let split = is ∙ last_behind n (omega arith) in
    let digit : get_or digits (len - 1) 0 ≡ 48 + n % 10 = (last_is digits (tens (n / 10)) len (48 + n % 10) within split).1 in
    let same : n / 10 ≡ (n + 1) / 10 = omega (arith, digit, below) in
    let next : get_or digits (len - 1) 0 + 1 ≡ 48 + (n + 1) % 10 = omega (arith, digit, below) in
    last_set digits (tens (n / 10)) len (48 + n % 10) (get_or digits (len - 1) 0 + 1) within split
    ∙ ap (λ (q : ℕ). tens q ++ (get_or digits (len - 1) 0 + 1) ∷ []) same
    ∙ ap (λ (d : ℕ). tens ((n + 1) / 10) ++ d ∷ []) next
    ∙ sym (last_behind (n + 1) small)

-- the digits of small numbers; the tens of a number's tens are its hundreds
two : (n : ℕ) → 10 ≤ n → n < 100 → decimal n ≡ (48 + n / 10 % 10) ∷ (48 + n % 10) ∷ []
two n more small =
    let digit : n / 10 ≡ n / 10 % 10 = omega (arith, small) in
    decimal_step n more (omega (arith, small))
    ∙ ap (λ (ds : List ℕ). ds ++ (48 + n % 10) ∷ []) (decimal_digit (n / 10) (omega (arith, small)) ∙ ap (λ (d : ℕ). (48 + d) ∷ []) digit)

three : (n : ℕ) → 100 ≤ n → n < 1000 → decimal n ≡ (48 + n / 10 / 10 % 10) ∷ (48 + n / 10 % 10) ∷ (48 + n % 10) ∷ []
three n more small =
    decimal_step n (omega (arith, more)) (omega (arith, small))
    ∙ ap (λ (ds : List ℕ). ds ++ (48 + n % 10) ∷ []) (two (n / 10) (omega (arith, more)) (omega (arith, small)))

four : (n : ℕ) → 1000 ≤ n → n < 10000 → decimal n ≡ (48 + n / 10 / 10 / 10 % 10) ∷ (48 + n / 10 / 10 % 10) ∷ (48 + n / 10 % 10) ∷ (48 + n % 10) ∷ []
four n more small =
    decimal_step n (omega (arith, more)) (omega (arith, small))
    ∙ ap (λ (ds : List ℕ). ds ++ (48 + n % 10) ∷ []) (three (n / 10) (omega (arith, more)) (omega (arith, small)))

-- the same of bytes that are known to be these digits
pub one_digit : {a : ℕ} (n : ℕ) → n < 10 → a ≡ 48 + n % 10 → a ∷ [] ≡ decimal n
one_digit n small first =
    let digit : n % 10 ≡ n = omega (arith, small) in
    ap (λ (d : ℕ). d ∷ []) first ∙ ap (λ (d : ℕ). (48 + d) ∷ []) digit ∙ sym (decimal_digit n small)

pub two_digits : {a b : ℕ} (n : ℕ) → 10 ≤ n → n < 100 → a ≡ 48 + n / 10 % 10 → b ≡ 48 + n % 10 → a ∷ b ∷ [] ≡ decimal n
two_digits n more small first second = rw first (rw second (sym (two n more small)))

pub three_digits : {a b c : ℕ} (n : ℕ) → 100 ≤ n → n < 1000 → a ≡ 48 + n / 10 / 10 % 10 → b ≡ 48 + n / 10 % 10 → c ≡ 48 + n % 10 → a ∷ b ∷ c ∷ [] ≡ decimal n
three_digits n more small first second third = rw first (rw second (rw third (sym (three n more small))))

pub four_digits : {a b c d : ℕ} (n : ℕ) → 1000 ≤ n → n < 10000 → a ≡ 48 + n / 10 / 10 / 10 % 10 → b ≡ 48 + n / 10 / 10 % 10 → c ≡ 48 + n / 10 % 10 → d ≡ 48 + n % 10
    → a ∷ b ∷ c ∷ d ∷ [] ≡ decimal n
four_digits n more small first second third fourth = rw first (rw second (rw third (rw fourth (sym (four n more small)))))
