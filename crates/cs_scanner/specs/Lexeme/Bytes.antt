-- Bytes by rank.
use Rattle.std.specs.Prelude.{◌≡◌, ℕ, ◌<◌, List, All, Contains, slice_get, Some}
use Rattle.cs_pattern_parts.specs.Items.StandsFor.{AreBytes}
use Rattle.cs_scanner.specs.Lexeme.Rank.{rank}

-- the number ascends along the list
abbrev pub Rises : {A : Type 0} → (A → ℕ) → List A → Type 0
Rises {A} f xs = (i j : ℕ) (x y : A) → i < j → slice_get xs i ≡ Some x → slice_get xs j ≡ Some y → f x < f y

-- the bytes whose rank is below the limit, ascending by rank
pub record AreByRank (limit : ℕ) (bytes : List ℕ) : Type 0 where
  pub are : AreBytes bytes
  pub below : All (λ b. rank b < limit) bytes
  pub all : (b : ℕ) → b < 256 → rank b < limit → Contains bytes b
  pub rises : Rises rank bytes
