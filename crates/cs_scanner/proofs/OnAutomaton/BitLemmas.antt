-- Bits that are set and read.
use Rattle.std.proofs.Common.{◌≡◌, ◌≢◌, ℕ, ◌+◌, ◌≤◌, ◌*◌, ◌/◌, ◌%◌, ◌^◌, ◌<◌, true, false, [], ◌∷◌, ◌++◌, length, get_or, inl, inr, refl, sym, ap, ◌∙◌, arith, nat_eq, get_or-set_same, get_or-set_other, zero, suc, min, List}
use Rattle.std.specs.Prelude.{◌==◌, ◌&&◌, bit_or, bit_and}
use Rattle.std.proofs.Math.ListN.{set}
use Rattle.std.specs.Int.{bit_at, w64, trailing_zeros}
use Rattle.std.proofs.lemmas.Bool.{cases_eq, cases_lt}
use Rattle.std.proofs.lemmas.List.{length-set, get_or_past}
use Rattle.std.proofs.lemmas.List.Elements.{Contains-append_left, Contains-append_right, Contains-append_cases}
use Rattle.std.proofs.lemmas.Nat.Bits.{bit_at_set_same, bit_at_set_other, bit_at_and, bit_at-lt, bit_at-zero, bit_at-trailing_zeros}
use Rattle.cs_scanner.specs.Automaton.Bits.{bit, Puts}
use Rattle.cs_scanner.proofs.OnAutomaton.Lists.{one_of, none_of}

pub puts_none : (words : List ℕ) → Puts words words []
puts_none words = record { long = refl; kept = λ m h. h; added = λ m c. absurd (none_of m c); others = λ m h. inl h }

pub puts_on : (a b c xs ys : List ℕ) → Puts a b xs → Puts b c ys → Puts a c (xs ++ ys)
puts_on a b c xs ys p q =
    record {
      long = q.long ∙ p.long;
      kept = λ m h. q.kept m (p.kept m h);
      added = λ m h lt.
          elim (Contains-append_cases xs ys m h) [
            | inl l ↦ q.kept m (p.added m l (omega (arith, lt, q.long)))
            | inr r ↦ q.added m r lt
          ];
      others = λ m h.
          elim (q.others m h) [
            | inl old ↦ elim (p.others m old) [ inl o ↦ inl o | inr l ↦ inr (Contains-append_left xs ys m l) ]
            | inr r ↦ inr (Contains-append_right xs ys m r)
          ];
    }

module _ (words : List ℕ) (n : ℕ) where
  abbrev new : List ℕ
  new = set words (n / 64) (bit_or (get_or words (n / 64) 0) (1 * 2 ^ (n % 64) % 2 ^ 64))

  bit_same : n / 64 < length words → (m : ℕ) → m ≡ n → bit new m ≡ true
  bit_same within m e =
      ap (bit new) e
      ∙ ap (λ w. nat_eq (bit_at w (n % 64)) 1) (get_or-set_same words (n / 64) (bit_or (get_or words (n / 64) 0) (1 * 2 ^ (n % 64) % 2 ^ 64)) 0 within)
      ∙ ap (λ k. nat_eq k 1) (bit_at_set_same w64 (get_or words (n / 64) 0) (n % 64) (omega arith))

  bit_other : n / 64 < length words → (m : ℕ) → m ≢ n → bit new m ≡ bit words m
  bit_other within m ne =
      elim (cases_eq (m / 64) (n / 64)) [
        | inl e ↦
            ap (λ k. nat_eq (bit_at (get_or new k 0) (m % 64)) 1) e
            ∙ ap (λ w. nat_eq (bit_at w (m % 64)) 1) (get_or-set_same words (n / 64) (bit_or (get_or words (n / 64) 0) (1 * 2 ^ (n % 64) % 2 ^ 64)) 0 within)
            ∙ ap (λ k. nat_eq k 1) (bit_at_set_other w64 (get_or words (n / 64) 0) (n % 64) (omega arith) (m % 64) (omega (arith, ne, e)))
            ∙ ap (λ k. nat_eq (bit_at (get_or words k 0) (m % 64)) 1) (sym e)
        | inr other ↦
            ap (λ w. nat_eq (bit_at w (m % 64)) 1) (get_or-set_other words (n / 64) (m / 64) (bit_or (get_or words (n / 64) 0) (1 * 2 ^ (n % 64) % 2 ^ 64)) 0 other)
      ]

  pub puts_one : n / 64 < length words → Puts words new (n ∷ [])
  puts_one within =
      record {
        long = length-set words (n / 64) (bit_or (get_or words (n / 64) 0) (1 * 2 ^ (n % 64) % 2 ^ 64));
        kept = λ m h. elim (cases_eq m n) [ inl e ↦ bit_same within m e | inr ne ↦ bit_other within m ne ∙ h ];
        added = λ m c lt. bit_same within m (sym (one_of n m c));
        others = λ m h. elim (cases_eq m n) [ inl e ↦ inr (0, omega arith, sym e) | inr ne ↦ inl (sym (bit_other within m ne) ∙ h) ];
      }

-- ---- two sets

both_bits : (x y : ℕ) → x < 2 → y < 2 → (min x y == 1) ≡ ((x == 1) && (y == 1))
both_bits zero zero p q = refl
both_bits zero (suc zero) p q = refl
both_bits (suc zero) zero p q = refl
both_bits (suc zero) (suc zero) p q = refl
both_bits (suc (suc x)) y p q = absurd (omega (arith, p))
both_bits x (suc (suc y)) p q = absurd (omega (arith, q))

pub past_bit : (words : List ℕ) (m : ℕ) → length words ≤ m / 64 → bit words m ≡ false
past_bit words m le = ap (λ w. nat_eq (bit_at w (m % 64)) 1) (get_or_past words (m / 64) 0 le) ∙ ap (λ k. nat_eq k 1) (bit_at-zero (m % 64))

pub common_bits : (a b c : List ℕ) → length c ≡ length a → length a ≡ length b → ((j : ℕ) → j < length a → get_or c j 0 ≡ bit_and (get_or a j 0) (get_or b j 0)) → (m : ℕ) → bit c m ≡ (bit a m && bit b m)
common_bits a b c long same each m =
    elim (cases_lt (m / 64) (length a)) [
      | inl lt ↦
          ap (λ w. nat_eq (bit_at w (m % 64)) 1) (each (m / 64) lt)
          ∙ ap (λ k. nat_eq k 1) (bit_at_and (get_or a (m / 64) 0) (get_or b (m / 64) 0) (m % 64))
          ∙ both_bits (bit_at (get_or a (m / 64) 0) (m % 64)) (bit_at (get_or b (m / 64) 0) (m % 64)) (bit_at-lt (get_or a (m / 64) 0) (m % 64)) (bit_at-lt (get_or b (m / 64) 0) (m % 64))
      | inr le ↦ past_bit c m (omega (arith, le, long)) ∙ sym (ap (λ t. t && bit b m) (past_bit a m le))
    ]

pub some_bit : (words : List ℕ) (k : ℕ) → k < length words → get_or words k 0 < 2 ^ 64 → get_or words k 0 ≢ 0 → (m : ℕ) × (m < 64 * length words) × (bit words m ≡ true)
some_bit words k lt fits ne =
    let w = get_or words k 0 in
    let t = bit_at-trailing_zeros w64 w (omega (arith, ne)) fits in
    let i = trailing_zeros w64 w in
    let m = 64 * k + i in
    let high : m / 64 ≡ k = omega (arith, t.0) in
    let low : m % 64 ≡ i = omega (arith, t.0) in
    (m, omega (arith, t.0, lt), ap (λ j. nat_eq (bit_at (get_or words j 0) (m % 64)) 1) high ∙ ap (λ j. nat_eq (bit_at w j) 1) low ∙ ap (λ j. nat_eq j 1) t.1)
