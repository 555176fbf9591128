-- Which words are numbers, and which number the code tells of one that a line says.
use Rattle.std.specs.Prelude.{◌≡◌, ◌≤◌, ℕ, min, List, map}
use Rattle.cs_lines.specs.Words.Words.{numeral}

-- `0` to `9`
abbrev pub IsDigit : ℕ → Type 0
IsDigit b = (48 ≤ b) × (b ≤ 57)

-- the word is the numeral of some number
abbrev pub IsNumeral : List ℕ → Type 0
IsNumeral word = (n : ℕ) × (word ≡ numeral n)

-- the words are numerals
abbrev pub AreNumerals : List (List ℕ) → Type 0
AreNumerals words = (ns : List ℕ) × (words ≡ map numeral ns)

-- the greatest number that is told; it stands for all above, too
abbrev pub greatest : ℕ
greatest = 18446744073709551615

-- the number is read as this one
abbrev pub IsRead : ℕ → ℕ → Type 0
IsRead number read = read ≡ min number greatest
