-- A text has a scan.
use Rattle.std.proofs.Common.{ℕ, zero, suc, ◌≤◌, true, false, List, [], ◌∷◌, ◌++◌, refl, arith, length, length-drop, drop}
use Rattle.cs_scanner.specs.Scan.Scan.{Scanning, HasScan, ends, stops, goes_on}

module _ (s : Scanning) where
  runs_within : (n : ℕ) (text : List ℕ) → length text ≤ n → HasScan s text
  runs_within n [] le none = none [] true (ends [] [] true refl refl refl)
  runs_within zero (x ∷ xs) le none = omega (arith, le)
  runs_within (suc n) (x ∷ xs) le none =
      none [] false (stops (x ∷ xs) [] false (λ e. cc) (λ size now g.
      runs_within n (drop size (x ∷ xs)) (omega (arith, le, g.is_match.some, length-drop size (x ∷ xs)))
      (λ later whole r. none (now ++ later) whole (goes_on (x ∷ xs) (now ++ later) whole size now later g r refl))) refl refl)

pub runs_some : (s : Scanning) (text : List ℕ) → HasScan s text
runs_some s text = runs_within s (length text) text (omega arith)
