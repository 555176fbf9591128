-- Classes of bytes (ASCII; the classes of the POSIX locale).
use Rattle.std.specs.Prelude.{ℕ, Bool, ◌==◌, nat_le, ◌&&◌, ◌||◌, not}
use Rattle.cs_bytes.specs.declared.class.ByteClass.{ByteClass}
use Rattle.cs_bytes.specs.declared.class.ByteClass.TheVariants.{Digit, OctalDigit, HexadecimalDigit, Blank, Space, WordStart, Word, WordOr, Not, Neither}
use Rattle.cs_bytes.specs.Names.{tab, newline, carriage_return, space, dash, closing_bracket, underscore}

-- the byte is one of those from the first to the last
abbrev pub is_between : ℕ → ℕ → ℕ → Bool
is_between first last b = nat_le first b && nat_le b last

-- `A` to `Z` and `a` to `z`
abbrev pub is_letter : ℕ → Bool
is_letter b = is_between 65 90 b || is_between 97 122 b

-- `0` to `9`
abbrev pub is_digit : ℕ → Bool
is_digit b = is_between 48 57 b

-- `0` to `7`
abbrev pub is_octal_digit : ℕ → Bool
is_octal_digit b = is_between 48 55 b

-- `0` to `9`, `A` to `F` and `a` to `f`
abbrev pub is_hexadecimal_digit : ℕ → Bool
is_hexadecimal_digit b = is_digit b || is_between 65 70 b || is_between 97 102 b

abbrev pub is_newline : ℕ → Bool
is_newline b = b == newline

-- what separates things on one line: space, tab or carriage return
abbrev pub is_blank : ℕ → Bool
is_blank b = (b == space) || (b == tab) || (b == carriage_return)

-- a blank or a newline
abbrev pub is_space : ℕ → Bool
is_space b = is_blank b || is_newline b

-- space, tab, newline, vertical tab, form feed, carriage return
abbrev pub is_white_space : ℕ → Bool
is_white_space b = (b == space) || is_between 9 13 b

-- what a C word begins with: a letter or `_`
abbrev pub begins_word : ℕ → Bool
begins_word b = is_letter b || (b == underscore)

-- what a C word goes on with: a letter, `_` or a digit
abbrev pub is_word_byte : ℕ → Bool
is_word_byte b = begins_word b || is_digit b

-- what a word with dashes goes on with: a letter, `_`, a digit or `-`
abbrev pub is_dashed_word_byte : ℕ → Bool
is_dashed_word_byte b = is_word_byte b || (b == dash)

-- what may stand in a named part of a bracket: neither `]` nor newline
abbrev pub is_inner : ℕ → Bool
is_inner b = not ((b == closing_bracket) || (b == newline))

-- the byte is of the class
abbrev pub is_in : ByteClass → ℕ → Bool
is_in Digit b = is_digit b
is_in OctalDigit b = is_octal_digit b
is_in HexadecimalDigit b = is_hexadecimal_digit b
is_in Blank b = is_blank b
is_in Space b = is_space b
is_in WordStart b = begins_word b
is_in Word b = is_word_byte b
is_in (WordOr other) b = is_word_byte b || (b == other)
is_in (Not other) b = not (b == other)
is_in (Neither one other) b = not ((b == one) || (b == other))
