-- The values of the other options, the number of bases, how many negatives are kept, and the separator; and the seed of `gen`.
use Rattle.std.specs.Prelude.{◌≡◌, ◌≢◌, ◌⊎◌, ◌+◌, ◌*◌, ◌^◌, ◌≤◌, ◌<◌, ℕ, List, [], ◌∷◌, ◌++◌, length, IsTrue}
use Rattle.std.specs.List.{list_all}
use Rattle.cs_bytes.specs.Classes.{is_digit, is_hexadecimal_digit}
use Rattle.cs_bytes.specs.Digits.{digit_of, number_of}
use Rattle.cs_bytes.specs.Names.{backslash, letter_x}

-- decimal digits, at least one and at most so many
abbrev pub AreDigits : ℕ → List ℕ → Type 0
AreDigits most value = (1 ≤ length value) × (length value ≤ most) × IsTrue (list_all is_digit value)

-- one to four decimal digits that spell a number of at most 1,000
pub record IsBases (value : List ℕ) (bases : ℕ) : Type 0 where
  pub digits : AreDigits 4 value
  pub number : bases ≡ number_of 10 value
  pub most : bases ≤ 1000

-- the same of a number from 1 on
pub record IsFirst (value : List ℕ) (first : ℕ) : Type 0 where
  pub spelled : IsBases value first
  pub least : 1 ≤ first

-- one to twenty decimal digits that spell a number below 2^64
pub record IsSeed (value : List ℕ) (seed : ℕ) : Type 0 where
  pub digits : AreDigits 20 value
  pub number : seed ≡ number_of 10 value
  pub below : seed < 2 ^ 64

abbrev pub SpellsSeed : List ℕ → Type 0
SpellsSeed value = (seed : ℕ) × IsSeed value seed

-- `\x` and two hexadecimal digits of the byte
pub record IsEscape (spelling : List ℕ) (value : ℕ) : Type 0 where
  pub high : ℕ
  pub low : ℕ
  pub text : spelling ≡ backslash ∷ letter_x ∷ high ∷ low ∷ []
  pub is_high : IsTrue (is_hexadecimal_digit high)
  pub is_low : IsTrue (is_hexadecimal_digit low)
  pub byte : value ≡ digit_of high * 16 + digit_of low

-- the byte itself, but for a backslash; or an escape
abbrev pub SpellsByte : List ℕ → ℕ → Type 0
SpellsByte text byte = ((text ≡ byte ∷ []) × (byte ≢ backslash)) ⊎ IsEscape text byte

-- the value is the spellings of the bytes, one behind the other
abbrev pub Spells : List ℕ → List ℕ → Type 0
Spells value [] = value ≡ []
Spells value (byte ∷ bytes) =
    (text : List ℕ) × (rest : List ℕ) × (value ≡ text ++ rest) × SpellsByte text byte × Spells rest bytes

-- spelled bytes, at most 64
abbrev pub IsSeparator : List ℕ → List ℕ → Type 0
IsSeparator value bytes = Spells value bytes × (length bytes ≤ 64)
