-- What stands one behind the other in a text.
use Rattle.std.specs.Prelude.{ℕ, zero, suc, ◌+◌, List, [], ◌∷◌, Option, Some, None, length, drop}

-- what stands first, and then more behind it
abbrev pub and_more : {A : Type 0} → Option (A × ℕ) → (ℕ → List A × ℕ) → List A × ℕ
and_more None more = ([], 0)
and_more (Some (x, n)) more = (x ∷ (more n).0, n + (more n).1)

module _ {A : Type 0} (step : List ℕ → Option (A × ℕ)) where
  -- what stands from the front on, at most so many, and how many bytes it takes
  abbrev pub up_to : ℕ → List ℕ → List A × ℕ
  up_to zero text = ([], 0)
  up_to (suc most) text = and_more (step text) (λ n. up_to most (drop n text))

  -- what stands from the front on, until nothing more does, and how many bytes it takes
  unfoldable pub steps : List ℕ → List A × ℕ
  steps text = up_to (length text) text
