-- Numbers that stand still at the end of their type.
use Rattle.std.proofs.Common.{◌≡◌, ℕ, ◌≤◌, ◌<◌, Bool, true, false, min, refl, sym, ap, ◌∙◌, arith, inl, inr}
use Rattle.std.specs.Prelude.{nat_le, if◌then◌else◌, ◌&&◌, Some, None}
use Rattle.std.proofs.lemmas.Bool.{cases_lt, lt-leb, le-leb, leb-true, false≢true}
use Rattle.cs_pattern_parts.specs.declared.items.item.Repetition.TheVariants.{Exactly, AtLeast, Between}
use Rattle.cs_pattern_parts.specs.Items.Interval.{exactly, at_least, between}

-- ---- numbers of an interval

module _ (n : ℕ) where
  same_test : (k : ℕ) → k < 4294967295 → nat_le (min n 4294967295) k ≡ nat_le n k
  same_test k lt =
      elim (cases_lt k n) [
        | inl above ↦ let a : nat_le (min n 4294967295) k ≡ false = lt-leb (min n 4294967295) k (omega arith) in let b : nat_le n k ≡ false = lt-leb n k above in a ∙ sym b
        | inr below ↦ let e : min n 4294967295 ≡ n = omega arith in ap (λ m. nat_le m k) e
      ]

  same_one : nat_le 1 (min n 4294967295) ≡ nat_le 1 n
  same_one =
      elim (cases_lt n 1) [
        | inl none ↦ let e : min n 4294967295 ≡ n = omega arith in ap (nat_le 1) e
        | inr some ↦ let a : nat_le 1 (min n 4294967295) ≡ true = le-leb 1 (min n 4294967295) (omega arith) in let b : nat_le 1 n ≡ true = le-leb 1 n some in a ∙ sym b
      ]

  -- where a number is at most 1,000 it was not cut
  kept : {A : Type 0} (f : ℕ → A) → nat_le n 1000 ≡ true → f (min n 4294967295) ≡ f n
  kept f e = let le : n ≤ 1000 = leb-true n 1000 e in let same : min n 4294967295 ≡ n = omega arith in ap f same

under_test : {A : Type 0} (b : Bool) (x y z : A) → (b ≡ true → x ≡ y) → (if b then x else z) ≡ (if b then y else z)
under_test true x y z h = h refl
under_test false x y z h = refl

and_last : (p q : Bool) → (p && q) ≡ true → q ≡ true
and_last true q e = e
and_last false q e = absurd (false≢true e)

pub exactly_capped : (n least : ℕ) → least ≡ min n 4294967295 → exactly least ≡ exactly n
exactly_capped n least is =
    ap exactly is
    ∙ ap (λ v. if v then Some (Exactly (min n 4294967295)) else None) (ap (λ v. v && nat_le (min n 4294967295) 1000) (same_one n) ∙ ap (λ v. nat_le 1 n && v) (same_test n 1000 (omega arith)))
    ∙ under_test (nat_le 1 n && nat_le n 1000) (Some (Exactly (min n 4294967295))) (Some (Exactly n)) None (λ e. kept n (λ m. Some (Exactly m)) (and_last _ _ e))

pub at_least_capped : (n least : ℕ) → least ≡ min n 4294967295 → at_least least ≡ at_least n
at_least_capped n least is =
    ap at_least is
    ∙ ap (λ v. if v then Some (AtLeast (min n 4294967295)) else None) (same_test n 1000 (omega arith))
    ∙ under_test (nat_le n 1000) (Some (AtLeast (min n 4294967295))) (Some (AtLeast n)) None (kept n (λ m. Some (AtLeast m)))

pub between_capped : (n m least most : ℕ) → least ≡ min n 4294967295 → most ≡ min m 4294967295 → between least most ≡ between n m
between_capped n m least most is are =
    elim (cases_lt 1000 m) [
      | inl above ↦
          let a : nat_le most 1000 ≡ false = lt-leb most 1000 (omega arith) in
          let b : nat_le m 1000 ≡ false = lt-leb m 1000 above in
          ap (λ v. if (nat_le least most && nat_le 1 most) && v then Some (Between least most) else None) a
          ∙ (ap (λ v. if v then Some (Between least most) else None) (never (nat_le least most && nat_le 1 most)))
          ∙ sym (ap (λ v. if (nat_le n m && nat_le 1 m) && v then Some (Between n m) else None) b ∙ ap (λ v. if v then Some (Between n m) else None) (never (nat_le n m && nat_le 1 m)))
      | inr below ↦
          let e : most ≡ m = omega arith in
          elim (cases_lt m n) [
            | inl wrong ↦
                let a : nat_le least m ≡ false = lt-leb least m (omega arith) in
                let b : nat_le n m ≡ false = lt-leb n m wrong in
                ap (between least) e ∙ ap (λ v. if (v && nat_le 1 m) && nat_le m 1000 then Some (Between least m) else None) a
                ∙ sym (ap (λ v. if (v && nat_le 1 m) && nat_le m 1000 then Some (Between n m) else None) b)
            | inr right ↦ let f : least ≡ n = omega arith in ap (between least) e ∙ ap (λ k. between k m) f
          ]
    ]
  where
    never : (v : Bool) → (v && false) ≡ false
    never true = refl
    never false = refl
