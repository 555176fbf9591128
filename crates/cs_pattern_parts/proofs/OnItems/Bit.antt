-- A bit of four words, set.
use Rattle.std.proofs.Common.{◌≡◌, ℕ, zero, suc, ◌*◌, ◌/◌, ◌%◌, ◌^◌, ◌<◌, true, List, [], ◌∷◌, length, max, get_or, inl, inr, refl, sym, ap, ◌∙◌, arith, nat_eq, get_or-set_same, get_or-set_other}
use Rattle.std.specs.Prelude.{◌==◌, ◌||◌, bit_or}
use Rattle.std.proofs.Math.ListN.{set}
use Rattle.std.specs.Int.{bit_at, w64}
use Rattle.std.proofs.lemmas.Bool.{cases_eq, eq-eqb}
use Rattle.std.proofs.lemmas.Nat.Bits.{bit_at_set_same, bit_at_set_other, bit_at_or, bit_at-lt}
use Rattle.cs_pattern_parts.proofs.OnItems.Picked.{not_equal}
use Rattle.cs_pattern_parts.specs.Items.Bits.{has_bit}

module _ (words : List ℕ) (byte b : ℕ) (within : byte / 64 < length words) where
  abbrev new : List ℕ
  new = set words (byte / 64) (bit_or (get_or words (byte / 64) 0) (1 * 2 ^ (byte % 64) % 2 ^ 64))

  pub set_bit_same : b ≡ byte → has_bit new b ≡ true
  set_bit_same e =
      ap (has_bit new) e
      ∙ ap (λ w. nat_eq (bit_at w (byte % 64)) 1) (get_or-set_same words (byte / 64) (bit_or (get_or words (byte / 64) 0) (1 * 2 ^ (byte % 64) % 2 ^ 64)) 0 within)
      ∙ ap (λ n. nat_eq n 1) (bit_at_set_same w64 (get_or words (byte / 64) 0) (byte % 64) (omega arith))

  pub set_bit_other : (b ≡ byte → ⊥) → has_bit new b ≡ has_bit words b
  set_bit_other ne =
      elim (cases_eq (b / 64) (byte / 64)) [
        | inl e ↦
            ap (λ k. nat_eq (bit_at (get_or new k 0) (b % 64)) 1) e
            ∙ ap (λ w. nat_eq (bit_at w (b % 64)) 1) (get_or-set_same words (byte / 64) (bit_or (get_or words (byte / 64) 0) (1 * 2 ^ (byte % 64) % 2 ^ 64)) 0 within)
            ∙ ap (λ n. nat_eq n 1) (bit_at_set_other w64 (get_or words (byte / 64) 0) (byte % 64) (omega arith) (b % 64) (omega arith))
            ∙ ap (λ k. nat_eq (bit_at (get_or words k 0) (b % 64)) 1) (sym e)
        | inr other ↦
            ap (λ w. nat_eq (bit_at w (b % 64)) 1) (get_or-set_other words (byte / 64) (b / 64) (bit_or (get_or words (byte / 64) 0) (1 * 2 ^ (byte % 64) % 2 ^ 64)) 0 other)
      ]

  pub set_bit : has_bit new b ≡ ((b == byte) || has_bit words b)
  set_bit =
      elim (cases_eq b byte) [
        | inl e ↦ set_bit_same e ∙ sym (ap (λ v. v || has_bit words b) (eq-eqb b byte e))
        | inr ne ↦ set_bit_other ne ∙ sym (ap (λ v. v || has_bit words b) (not_equal b byte ne))
      ]

-- ---- the words of two sets, joined

abbrev pub joined : List ℕ → List ℕ → List ℕ
joined v w = bit_or (get_or v 0 0) (get_or w 0 0) ∷ bit_or (get_or v 1 0) (get_or w 1 0) ∷ bit_or (get_or v 2 0) (get_or w 2 0) ∷ bit_or (get_or v 3 0) (get_or w 3 0) ∷ []

word_joined : (v w : List ℕ) (k : ℕ) → k < 4 → get_or (joined v w) k 0 ≡ bit_or (get_or v k 0) (get_or w k 0)
word_joined v w zero lt = refl
word_joined v w (suc zero) lt = refl
word_joined v w (suc (suc zero)) lt = refl
word_joined v w (suc (suc (suc zero))) lt = refl
word_joined v w (suc (suc (suc (suc k)))) lt = absurd (omega (arith, lt))

either_bit : (x y : ℕ) → x < 2 → y < 2 → nat_eq (max x y) 1 ≡ (nat_eq x 1 || nat_eq y 1)
either_bit zero zero p q = refl
either_bit zero (suc zero) p q = refl
either_bit (suc zero) zero p q = refl
either_bit (suc zero) (suc zero) p q = refl
either_bit (suc (suc x)) y p q = absurd (omega (arith, p))
either_bit zero (suc (suc y)) p q = absurd (omega (arith, q))
either_bit (suc zero) (suc (suc y)) p q = absurd (omega (arith, q))

pub joined_bit : (v w : List ℕ) (b : ℕ) → b < 256 → has_bit (joined v w) b ≡ (has_bit v b || has_bit w b)
joined_bit v w b lt =
    ap (λ u. nat_eq (bit_at u (b % 64)) 1) (word_joined v w (b / 64) (omega arith))
    ∙ ap (λ n. nat_eq n 1) (bit_at_or (get_or v (b / 64) 0) (get_or w (b / 64) 0) (b % 64))
    ∙ either_bit (bit_at (get_or v (b / 64) 0) (b % 64)) (bit_at (get_or w (b / 64) 0) (b % 64)) (bit_at-lt (get_or v (b / 64) 0) (b % 64)) (bit_at-lt (get_or w (b / 64) 0) (b % 64))
