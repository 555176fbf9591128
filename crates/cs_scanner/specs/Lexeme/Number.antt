-- The number of a text: of two texts of bytes the one that comes before has the lower number.
use Rattle.std.specs.Prelude.{ℕ, ◌+◌, ◌*◌, suc, List, [], ◌∷◌}
use Rattle.cs_scanner.specs.Lexeme.Rank.{rank}

-- a digit more
abbrev pub with_byte : ℕ → ℕ → ℕ
with_byte n byte = 4096 * n + suc (rank byte)

-- the digits of the text behind a number, to the base 4,096
abbrev pub number_from : ℕ → List ℕ → ℕ
number_from n [] = n
number_from n (b ∷ text) = number_from (with_byte n b) text

abbrev pub number : List ℕ → ℕ
number text = number_from 0 text
