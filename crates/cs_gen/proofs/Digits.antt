-- The digits of numbers, and the numbers from 1 on.
use Rattle.std.proofs.Common.{◌≡◌, ℕ, zero, suc, ◌+◌, ◌<◌, ◌≤◌, ◌%◌, ◌^◌, Bool, true, false, ◌&&◌, List, [], ◌∷◌, ◌++◌, length, refl, sym, ◌∙◌, eqb, eq-eqb, Some, arith}
use Rattle.std.specs.Prelude.{decimal}
use Rattle.std.specs.List.{AllByRecursion, list_all}
use Rattle.std.proofs.lemmas.Bool.{false≢true}
use Rattle.std.proofs.lemmas.Fmt.{decimal_by_steps, length-decimal-le}
use Rattle.std.proofs.lemmas.Nat.{mod_below}
use Rattle.cs_gen.specs.Texts.{up_to}

pub all_push : {A : Type 0} (P : A → Type 0) (xs : List A) (x : A) → AllByRecursion P xs → P x → AllByRecursion P (xs ++ x ∷ [])
all_push P [] x h p = (p, tt)
all_push P (y ∷ xs) x h p = (h.0, all_push P xs x h.1 p)

pass_push : (p : ℕ → Bool) (xs : List ℕ) (x : ℕ) → list_all p xs ≡ true → p x ≡ true → list_all p (xs ++ x ∷ []) ≡ true
pass_push p [] x h e = rw e refl
pass_push p (y ∷ xs) x h e = step (p y) h (λ g. pass_push p xs x g e)
  where
    step : (b : Bool) → (b && list_all p xs) ≡ true → (list_all p xs ≡ true → list_all p (xs ++ x ∷ []) ≡ true) → (b && list_all p (xs ++ x ∷ [])) ≡ true
    step true g rest = rest g
    step false g rest = absurd (false≢true g)

-- where `0` to `9` pass, the digits of a number do
pub decimal_passes : (p : ℕ → Bool) → ((d : ℕ) → d < 10 → p (48 + d) ≡ true) → (n : ℕ) → n < 2 ^ 64 → list_all p (decimal n) ≡ true
decimal_passes p digit n lt =
    decimal_by_steps (λ _ ds. list_all p ds ≡ true) (λ d small. pass_push p [] (48 + d) refl (digit d small)) (λ d ds large h. pass_push p ds (48 + d % 10) h (digit (d % 10) (mod_below d 10 (omega arith)))) n lt

pub short_decimal : (n most : ℕ) → n ≤ most → most ≤ 40 → length (decimal n) ≤ 2
short_decimal n most a b = length-decimal-le 2 n (omega arith) (omega arith) (omega arith)

pub numbers_below : (n most : ℕ) → n ≤ most → AllByRecursion (λ number. number ≤ most) (up_to n)
numbers_below zero most le = tt
numbers_below (suc n) most le = all_push (λ number. number ≤ most) (up_to n) (suc n) (numbers_below n most (omega arith)) le

-- ---- numbers that differ

pub apart : (a b : ℕ) → eqb a b ≡ false → a ≡ b → ⊥
apart a b differs e = false≢true (sym differs ∙ eq-eqb a b e)

pub heads_apart : (a b : ℕ) (xs ys : List ℕ) → eqb a b ≡ false → a ∷ xs ≡ b ∷ ys → ⊥
heads_apart a b xs ys differs e = let f : a ≡ b = cc in apart a b differs f

pub some_apart : (a b : ℕ) → eqb a b ≡ false → Some a ≡ Some b → ⊥
some_apart a b differs e = let f : a ≡ b = cc in apart a b differs f
