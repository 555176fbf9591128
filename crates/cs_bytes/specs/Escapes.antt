-- Bytes and texts between quotes, where what isn't printed stands escaped.
use Rattle.std.specs.Prelude.{ℕ, ◌+◌, ◌/◌, ◌%◌, ◌==◌, nat_le, ◌&&◌, not, if◌then◌else◌, Bool, List, [], ◌∷◌, ◌++◌}
use Rattle.std.specs.List.{flat_map}
use Rattle.cs_bytes.specs.Names.{backslash, double_quote, letter_x, quote, space}

-- `!`
abbrev pub exclamation_mark : ℕ
exclamation_mark = 33

-- `~`
abbrev pub tilde : ℕ
tilde = 126

-- `0` to `9` and `a` to `f`
abbrev pub hexadecimal_digit : ℕ → ℕ
hexadecimal_digit n = if nat_le n 9 then 48 + n else 87 + n

-- `\x` and two digits
abbrev pub escaped : ℕ → List ℕ
escaped b = backslash ∷ letter_x ∷ hexadecimal_digit (b / 16) ∷ hexadecimal_digit (b % 16) ∷ []

-- between single quotes `!` to `~` stand for themselves, but for the single quote and the backslash
abbrev pub is_plain_literal : ℕ → Bool
is_plain_literal b = nat_le exclamation_mark b && nat_le b tilde && not (b == quote) && not (b == backslash)

-- between double quotes space to `~` stand for themselves, but for the double quote and the backslash
abbrev pub is_plain_text : ℕ → Bool
is_plain_text b = nat_le space b && nat_le b tilde && not (b == double_quote) && not (b == backslash)

abbrev pub literal_byte : ℕ → List ℕ
literal_byte b = if is_plain_literal b then b ∷ [] else escaped b

abbrev pub text_byte : ℕ → List ℕ
text_byte b = if is_plain_text b then b ∷ [] else escaped b

-- a byte between single quotes
abbrev pub literal : ℕ → List ℕ
literal b = quote ∷ literal_byte b ++ quote ∷ []

-- a text between double quotes
abbrev pub quoted : List ℕ → List ℕ
quoted text = double_quote ∷ flat_map text_byte text ++ double_quote ∷ []
