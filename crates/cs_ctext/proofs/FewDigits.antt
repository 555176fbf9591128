-- A number of a few digits isn't cut.
use Rattle.std.proofs.Common.{◌≡◌, ◌≢◌, ℕ, ◌+◌, ◌*◌, ◌<◌, ◌≤◌, Bool, List, [], ◌∷◌, length, take, min, Some, refl, ◌∙◌, arith, length-take}
use Rattle.std.proofs.Math.Nat.{mul-le-mul_left}
use Rattle.std.proofs.lemmas.Bool.Decides.{nat_tests}
use Rattle.std.specs.List.{prefix_len}
use Rattle.cs_bytes.specs.Digits.{digit_of, number_of}
use Rattle.cs_bytes.proofs.Fronts.{false-eqb}
use Rattle.cs_ctext.specs.Scans.{digits_of}

digit_small : (b : ℕ) → digit_of b < 16
digit_small b = grind (arith, nat_tests)

more : (number base digit most : ℕ) → base ≤ 16 → digit < 16 → number ≤ most → number * base + digit ≤ most * 16 + 15
more number base digit most b d le = omega (arith, mul-le-mul_left number b)

small : (base : ℕ) (digits : List ℕ) → base ≤ 16 → length digits ≤ 3 → number_of base digits ≤ 4095
small base [] b few = omega arith
small base (x ∷ []) b few =
    let one : 0 * base + digit_of x ≤ 15 = more 0 base (digit_of x) 0 b (digit_small x) (omega arith) in
    omega arith
small base (x ∷ y ∷ []) b few =
    let one = more 0 base (digit_of x) 0 b (digit_small x) (omega arith) in
    let two = more (0 * base + digit_of x) base (digit_of y) 15 b (digit_small y) one in
    omega (arith, two)
small base (x ∷ y ∷ z ∷ []) b few =
    let one = more 0 base (digit_of x) 0 b (digit_small x) (omega arith) in
    let two = more (0 * base + digit_of x) base (digit_of y) 15 b (digit_small y) one in
    more ((0 * base + digit_of x) * base + digit_of y) base (digit_of z) 255 b (digit_small z) two
small base (x ∷ y ∷ z ∷ w ∷ digits) b few = absurd (omega arith)

pub few_digits : (base : ℕ) (digits : List ℕ) → base ≤ 16 → length digits ≤ 3 → min (number_of base digits) 4294967295 ≡ number_of base digits
few_digits base digits b few = omega (arith, small base digits b few)

pub digits_found : (p : ℕ → Bool) (base most n value : ℕ) (text : List ℕ) → base ≤ 16 → most ≤ 3 → n ≡ min (prefix_len p text) most → n ≢ 0
    → value ≡ min (number_of base (take n text)) 4294967295 → Some (value, n) ≡ digits_of p base most text
digits_found p base most n value text b few is some e =
    let size : min most (prefix_len p text) ≡ n = omega arith in
    let number : value ≡ number_of base (take n text) = e ∙ few_digits base (take n text) b (omega (arith, length-take n text)) in
    rw (size, false-eqb n 0 some, number) refl
