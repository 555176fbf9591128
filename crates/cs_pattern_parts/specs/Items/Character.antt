-- Escapes (POSIX lex, escape sequences).
use Rattle.std.specs.Prelude.{ℕ, ◌+◌, min, take, ◌==◌, if◌then◌else◌, List, [], ◌∷◌, Option, Some, None}
use Rattle.std.specs.List.{prefix_len}
use Rattle.cs_bytes.specs.Names.{letter_x, newline}
use Rattle.cs_bytes.specs.Classes.{is_octal_digit, is_hexadecimal_digit}
use Rattle.cs_bytes.specs.Digits.{number_of}
use Rattle.cs_pattern_parts.specs.Items.Parts.{byte_of, letter}

-- the longest run of up to three octal digits: its byte, which is missing above 255, and its size
unfoldable pub octal : List ℕ → Option ℕ × ℕ
octal text = (byte_of (number_of 8 (take (min (prefix_len is_octal_digit text) 3) text)), min (prefix_len is_octal_digit text) 3)

-- one or two hexadecimal digits behind `x`, which stands for itself where there is none
unfoldable pub hexadecimal : List ℕ → Option ℕ × ℕ
hexadecimal text =
    if min (prefix_len is_hexadecimal_digit text) 2 == 0 then (Some letter_x, 0)
    else (byte_of (number_of 16 (take (min (prefix_len is_hexadecimal_digit text) 2) text)), min (prefix_len is_hexadecimal_digit text) 2)

-- The escape behind a backslash: its byte, if it has one, and its size. There is none where nothing or a newline follows.
unfoldable pub escape : List ℕ → Option (Option ℕ × ℕ)
escape [] = None
escape (b ∷ rest) =
    if b == newline then None else (if is_octal_digit b then Some (octal (b ∷ rest))
    else (if b == letter_x then Some ((hexadecimal rest).0, (hexadecimal rest).1 + 1) else Some (Some (letter b), 1)))
