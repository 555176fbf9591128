-- The digits of small numbers are their numerals.
use Rattle.std.proofs.Common.{◌≡◌, ℕ, suc, ◌+◌, ◌/◌, ◌%◌, ◌^◌, ◌<◌, ◌≤◌, List, [], ◌∷◌, ◌++◌, refl, sym, ap, ◌∙◌, arith}
use Rattle.std.specs.Prelude.{decimal}
use Rattle.std.specs.List.{AllByRecursion}
use Rattle.std.proofs.lemmas.Fmt.{decimal_by_steps}
use Rattle.cs_lines.specs.Words.Words.{numeral}
use Rattle.cs_lines.proofs.OnLines.Numerals.{small_digits, large_digits, same_digits}
use Rattle.cs_manifest.specs.Output.Words.{spaced}

digits_more : (n : ℕ) (ds : List ℕ) → 10 ≤ n → ds ≡ numeral (n / 10) → ds ++ (48 + n % 10) ∷ [] ≡ numeral n
digits_more n ds large is =
    ap (λ (l : List ℕ). l ++ (48 + n % 10) ∷ []) (is ∙ same_digits (suc (n / 10)) n (n / 10) (omega arith) (omega (arith, large)))
    ∙ sym (large_digits n n large)

-- a number that is told by at most 64 bits
abbrev pub IsSmall : ℕ → Type 0
IsSmall n = n < 2 ^ 64

pub digits_are : (n : ℕ) → IsSmall n → decimal n ≡ numeral n
digits_are n small =
    decimal_by_steps (λ (k : ℕ) (ds : List ℕ). ds ≡ numeral k) (λ k low. sym (small_digits k k low)) (λ k ds large is. digits_more k ds large is) n small

pub spaced_digits : (ns : List ℕ) → AllByRecursion IsSmall ns → spaced decimal ns ≡ spaced numeral ns
spaced_digits [] all = refl
spaced_digits (n ∷ ns) all =
    ap (λ (d : List ℕ). (32 ∷ d) ++ spaced decimal ns) (digits_are n all.0) ∙ ap (λ (l : List ℕ). (32 ∷ numeral n) ++ l) (spaced_digits ns all.1)
