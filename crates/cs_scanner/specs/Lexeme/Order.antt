-- The order of lexemes: by length, and lists of one length by the ranks of their bytes from the left (the shortlex order of
-- formal language theory, by ranks).
use Rattle.std.specs.Prelude.{◌≡◌, ◌⊎◌, ℕ, ◌<◌, List, ◌∷◌, ◌++◌, length}
use Rattle.cs_scanner.specs.Lexeme.Rank.{rank}

-- where x and y first differ, the byte of x has the lower rank
pub record IsRankedBefore (x y : List ℕ) : Type 0 where
  pub front : List ℕ
  pub byte : ℕ
  pub other : ℕ
  pub behind : List ℕ
  pub others : List ℕ
  pub has : x ≡ front ++ byte ∷ behind
  pub has_other : y ≡ front ++ other ∷ others
  pub lower : rank byte < rank other

-- x comes before y
abbrev pub IsBefore : List ℕ → List ℕ → Type 0
IsBefore x y = (length x < length y) ⊎ ((length x ≡ length y) × IsRankedBefore x y)

-- x is y or comes before it
abbrev pub IsAtMost : List ℕ → List ℕ → Type 0
IsAtMost x y = (x ≡ y) ⊎ IsBefore x y
