-- Texts as they are spelled between double quotes.
use Rattle.std.specs.Prelude.{◌≡◌, ◌<◌, ◌≤◌, ℕ, List, [], ◌++◌, length, drop, codes, Option, None, Some}
use Rattle.std.specs.List.{flat_map}
use Rattle.cs_pattern_parts.specs.Items.StandsFor.{AreBytes}
use Rattle.cs_lines.specs.Words.Words.{text_byte, hexadecimal_digit, quoted}

-- the bytes spell the text
pub record Spells (spelled text : List ℕ) : Type 0 where
  pub is : spelled ≡ flat_map text_byte text
  pub are_bytes : AreBytes text

-- they spell some text
abbrev pub AreSpelled : List ℕ → Type 0
AreSpelled spelled = (text : List ℕ) × Spells spelled text

-- the bytes begin with the spelling of a byte, which has so many bytes
pub record BeginsSpelled (spelled : List ℕ) (byte size : ℕ) : Type 0 where
  pub is_byte : byte < 256
  pub some : 0 < size
  pub within : size ≤ length spelled
  pub is : spelled ≡ text_byte byte ++ drop size spelled

-- they begin with no such spelling
abbrev pub BeginsUnspelled : List ℕ → Type 0
BeginsUnspelled spelled = (byte : ℕ) (rest : List ℕ) → byte < 256 → spelled ≡ text_byte byte ++ rest → ⊥

-- the byte is the digit of a number
abbrev pub IsDigitOf : ℕ → ℕ → Type 0
IsDigitOf n byte = (n < 16) × (byte ≡ hexadecimal_digit n)

-- a lexeme's text as it is spelled, or the word for none
abbrev pub spelled_or_none : Option (List ℕ) → List ℕ
spelled_or_none None = codes "none"
spelled_or_none (Some text) = quoted text

-- its bytes
abbrev pub bytes_in : Option (List ℕ) → List ℕ
bytes_in None = []
bytes_in (Some text) = text
