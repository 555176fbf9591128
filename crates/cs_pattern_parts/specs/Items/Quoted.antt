-- Quoted texts (POSIX lex, regular expressions).
use Rattle.std.specs.Prelude.{ℕ, ◌+◌, ◌==◌, ◌||◌, if◌then◌else◌, List, [], ◌∷◌, Option, Some, None}
use Rattle.cs_bytes.specs.Names.{backslash, double_quote, newline}
use Rattle.cs_bytes.specs.Places.{has_at}
use Rattle.cs_pattern_parts.specs.Items.Character.{escape}
use Rattle.cs_pattern_parts.specs.Items.Steps.{steps}

-- the byte of an escape, and its size with the backslash
abbrev pub escaped : Option (Option ℕ × ℕ) → Option (ℕ × ℕ)
escaped None = None
escaped (Some (None, n)) = None
escaped (Some (Some b, n)) = Some (b, n + 1)

-- the byte at the front of a quoted text, and its size; newline and the double quote are none
unfoldable pub quoted_byte : List ℕ → Option (ℕ × ℕ)
quoted_byte [] = None
quoted_byte (b ∷ rest) = if (b == newline) || (b == double_quote) then None else (if b == backslash then escaped (escape rest) else Some (b, 1))

-- the bytes behind a double quote up to the next one, and their size with it, if the text is closed
unfoldable pub quoted : List ℕ → Option (List ℕ × ℕ)
quoted text = if has_at text (steps quoted_byte text).1 double_quote then Some ((steps quoted_byte text).0, (steps quoted_byte text).1 + 1) else None
