-- Words and lines of a manifest; its escapes are those of `Escapes` of cs_bytes.
use Rattle.std.specs.Prelude.{◌<◌, ◌≤◌, ℕ, zero, suc, ◌+◌, ◌/◌, ◌%◌, nat_lt, if◌then◌else◌, List, [], ◌∷◌, ◌++◌, length, All}
pub use Rattle.cs_bytes.specs.Escapes.{hexadecimal_digit, escaped, is_plain_literal, is_plain_text, literal_byte, text_byte, literal, quoted}
use Rattle.cs_bytes.specs.Names.{newline}

-- each line ends with a newline
abbrev pub line : List ℕ → List ℕ
line words = words ++ newline ∷ []

-- the decimal digits of a number, for which so many steps are enough
abbrev pub digits_within : ℕ → ℕ → List ℕ
digits_within zero n = []
digits_within (suc steps) n = if nat_lt n 10 then (48 + n) ∷ [] else digits_within steps (n / 10) ++ (48 + n % 10) ∷ []

-- a number, of whatever length, without leading zeros
abbrev pub numeral : ℕ → List ℕ
numeral n = digits_within (suc n) n

-- `!` to `~`
abbrev pub IsVisible : ℕ → Type 0
IsVisible b = (33 ≤ b) × (b ≤ 126)

-- what may stand for a name or a mark: a run of visible bytes
pub record IsWord (word : List ℕ) : Type 0 where
  pub some : 0 < length word
  pub visible : All IsVisible word
