-- Intervals and names between braces (POSIX lex, regular expressions).
use Rattle.std.specs.Prelude.{ℕ, ◌+◌, ◌==◌, nat_le, ◌&&◌, if◌then◌else◌, List, [], ◌∷◌, Option, Some, None, IfSome, ◌≤◌, take, drop}
use Rattle.std.specs.List.{prefix_len}
use Rattle.cs_bytes.specs.Names.{closing_brace, comma_sign}
use Rattle.cs_pattern_parts.specs.declared.items.item.Repetition.{Repetition}
use Rattle.cs_pattern_parts.specs.declared.items.item.Repetition.TheVariants.{Exactly, AtLeast, Between}
use Rattle.cs_bytes.specs.Classes.{is_digit, begins_word, is_dashed_word_byte}
use Rattle.cs_bytes.specs.Places.{has_at}
use Rattle.cs_bytes.specs.Digits.{number_of}

-- the numbers of an interval are at most 1,000, the first is at most the second, and the last is at least 1, but for `{0,}`
abbrev pub exactly : ℕ → Option Repetition
exactly n = if nat_le 1 n && nat_le n 1000 then Some (Exactly n) else None

abbrev pub at_least : ℕ → Option Repetition
at_least n = if nat_le n 1000 then Some (AtLeast n) else None

abbrev pub between : ℕ → ℕ → Option Repetition
between n m = if nat_le n m && nat_le 1 m && nat_le m 1000 then Some (Between n m) else None

abbrev pub sized : Option Repetition → ℕ → Option (Repetition × ℕ)
sized None n = None
sized (Some r) n = Some (r, n)

-- the digits at the front of a text
abbrev pub digits : List ℕ → ℕ
digits text = prefix_len is_digit text

-- what stands behind the comma
unfoldable pub open_interval : ℕ → List ℕ → Option (Repetition × ℕ)
open_interval n text =
    if has_at text (digits text) closing_brace
    then sized (if digits text == 0 then at_least n else between n (number_of 10 (take (digits text) text))) (digits text + 1) else None

abbrev pub longer : ℕ → Option (Repetition × ℕ) → Option (Repetition × ℕ)
longer n None = None
longer n (Some (r, m)) = Some (r, n + m)

-- the interval behind a `{`, and its size with the `}`
unfoldable pub interval : List ℕ → Option (Repetition × ℕ)
interval text =
    if digits text == 0 then None
    else (if has_at text (digits text) closing_brace then sized (exactly (number_of 10 (take (digits text) text))) (digits text + 1)
    else (if has_at text (digits text) comma_sign then longer (digits text + 1) (open_interval (number_of 10 (take (digits text) text)) (drop (digits text + 1) text)) else None))

-- the name behind a `{`, and its size with the `}`
unfoldable pub name : List ℕ → Option (List ℕ × ℕ)
name [] = None
name (b ∷ rest) =
    if begins_word b && has_at (b ∷ rest) (prefix_len is_dashed_word_byte (b ∷ rest)) closing_brace
    then Some (take (prefix_len is_dashed_word_byte (b ∷ rest)) (b ∷ rest), prefix_len is_dashed_word_byte (b ∷ rest) + 1) else None

-- what was found ends within so many bytes, with those before it
abbrev pub EndsWithin : ℕ → ℕ → Option (Repetition × ℕ) → Type 0
EndsWithin before most found = IfSome found (λ r. before + r.1 ≤ most)
