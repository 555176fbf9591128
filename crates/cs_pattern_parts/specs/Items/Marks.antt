-- What stands inside a bracket, one mark after another (POSIX, bracket expressions).
use Rattle.std.specs.Prelude.{ℕ, ◌+◌, ◌-◌, ◌==◌, ◌&&◌, ◌||◌, nat_lt, if◌then◌else◌, List, [], ◌∷◌, Option, Some, None, take, drop}
use Rattle.std.specs.List.{prefix_len}
use Rattle.cs_bytes.specs.Names.{backslash, closing_bracket, colon_sign, equals_sign, full_stop, newline, opening_bracket}
use Rattle.cs_bytes.specs.Classes.{is_inner}
use Rattle.cs_bytes.specs.Places.{has_at}
use Rattle.cs_pattern_parts.specs.Items.Brackets.{BracketMark, plain, escaped, class, collating}
use Rattle.cs_pattern_parts.specs.Items.Character.{escape}
use Rattle.cs_pattern_parts.specs.Items.Steps.{steps}

-- a part of this kind and name
abbrev pub part_of : ℕ → List ℕ → ℕ → Option (BracketMark × ℕ)
part_of kind name size = if kind == colon_sign then Some (class name, size) else (if (kind == full_stop) || (kind == equals_sign) then Some (collating, size) else None)

-- The named part behind a `[`: it goes through the next `]` on the line, where that stands directly behind a second
-- byte of the kind.
unfoldable pub named_part : List ℕ → Option (BracketMark × ℕ)
named_part [] = None
named_part (kind ∷ rest) =
    if nat_lt 0 (prefix_len is_inner rest) && has_at rest (prefix_len is_inner rest) closing_bracket && has_at rest (prefix_len is_inner rest - 1) kind
    then part_of kind (take (prefix_len is_inner rest - 1) rest) (prefix_len is_inner rest + 2) else None

-- a `[` that begins no named part stands for itself
abbrev pub or_itself : Option (BracketMark × ℕ) → Option (BracketMark × ℕ)
or_itself None = Some (plain opening_bracket, 1)
or_itself (Some (part, n)) = Some (part, n + 1)

abbrev pub escape_mark : Option (Option ℕ × ℕ) → Option (BracketMark × ℕ)
escape_mark None = None
escape_mark (Some (byte, n)) = Some (escaped byte, n + 1)

-- the mark at the front, and its size; newline and `]` are none
unfoldable pub mark : List ℕ → Option (BracketMark × ℕ)
mark [] = None
mark (b ∷ rest) =
    if (b == newline) || (b == closing_bracket) then None else (if b == backslash then escape_mark (escape rest)
    else (if b == opening_bracket then or_itself (named_part rest) else Some (plain b, 1)))

-- the marks up to the closing `]` and their size without it; a `]` that is the first stands for itself
unfoldable pub marks : List ℕ → List BracketMark × ℕ
marks text = if has_at text 0 closing_bracket then (plain closing_bracket ∷ (steps mark (drop 1 text)).0, 1 + (steps mark (drop 1 text)).1) else steps mark text
