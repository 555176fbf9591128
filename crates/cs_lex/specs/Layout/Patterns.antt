-- The extent of a pattern: to the first blank or newline outside escapes, quoted texts and brackets (POSIX lex).
use Rattle.std.specs.Prelude.{◌≡◌, ℕ, ◌+◌, ◌<◌, Bool, true, ◌==◌, nat_lt, ◌&&◌, ◌||◌, not, if◌then◌else◌, List, drop, slice_index_or, IsTrue, ◌⊎◌}
use Rattle.std.specs.List.{list_all, prefix_len}
use Rattle.cs_bytes.specs.Names.{double_quote, full_stop, colon_sign, equals_sign, opening_bracket, backslash, closing_bracket, caret}
use Rattle.cs_bytes.specs.Places.{begins_with}
use Rattle.cs_pattern_parts.specs.Items.Brackets.{part}
use Rattle.cs_pattern_parts.specs.Items.Parts.{Shows}
use Rattle.cs_lex.specs.declared.layout.unit.UnitKind.{UnitKind}
use Rattle.cs_lex.specs.declared.layout.unit.UnitKind.TheVariants.{Escape, Quoted, Bracket, Plain, Nothing}
use Rattle.cs_lex.specs.Layout.Steps.{Covers, HasSize}
use Rattle.cs_bytes.specs.Classes.{is_newline, is_space, is_inner}
use Rattle.cs_bytes.specs.Places.{front, front_or_end, line_len}

-- a backslash, and a byte that it takes along: any but newline
abbrev pub is_escape : List ℕ → Bool
is_escape text = begins_with backslash text && front (λ b. not (is_newline b)) (drop 1 text)

-- ---- quoted texts

-- neither double quote, backslash nor newline
abbrev pub is_quoted_byte : ℕ → Bool
is_quoted_byte b = not ((b == double_quote) || (b == backslash) || is_newline b)

-- of the escape or the byte in front, inside a quoted text; 0 where neither stands there
abbrev pub quoted_unit_size : List ℕ → ℕ
quoted_unit_size text = if is_escape text then 2 else if front is_quoted_byte text then 1 else 0

-- A quoted text begins the text: `"`, escapes and bytes, and the next `"` behind them, on the line.
pub record IsQuotedText (text : List ℕ) (size : ℕ) : Type 0 where
  pub inside : ℕ
  pub opened : IsTrue (begins_with double_quote text)
  pub closed : Covers (HasSize quoted_unit_size) (λ rest. IsTrue (begins_with double_quote rest)) (drop 1 text) inside
  pub ends : size ≡ inside + 2

-- ---- brackets

-- `:`, `.` or `=`
abbrev pub is_part_mark : ℕ → Bool
is_part_mark b = (b == colon_sign) || (b == full_stop) || (b == equals_sign)

-- how many bytes stand behind the `[` and the mark of a named part, up to the next `]` or the line's end
abbrev pub part_len : List ℕ → ℕ
part_len text = prefix_len is_inner (drop 2 text)

-- `[` and a mark begin the text
abbrev pub opens_part : List ℕ → Bool
opens_part text = begins_with opening_bracket text && front is_part_mark (drop 1 text)

-- behind so many bytes stands `]`, directly behind a second mark that is equal to the first
abbrev pub closes_part : ℕ → List ℕ → Bool
closes_part len text = begins_with closing_bracket (drop (len + 2) text) && nat_lt 0 len && (slice_index_or text (len + 1) 0 == slice_index_or text 1 0)

-- A named part begins the text: `[` and a mark, and the next `]` on the line stands directly behind a second equal mark.
abbrev pub is_named_part : List ℕ → Bool
is_named_part text = opens_part text && closes_part (part_len text) text

-- It is `[`, a mark, a name on the line without `]`, the mark again and `]`, as in patterns (law `named_parts`).
pub record HasNamedPart (text : List ℕ) (size : ℕ) : Type 0 where
  pub mark : ℕ
  pub name : List ℕ
  pub is_mark : is_part_mark mark ≡ true
  pub inner : list_all is_inner name ≡ true
  pub shown : Shows text (part mark name) size

-- neither `]`, backslash nor newline
abbrev pub is_bracket_byte : ℕ → Bool
is_bracket_byte b = not ((b == closing_bracket) || (b == backslash) || is_newline b)

-- of the named part in front; 0 where none stands there
abbrev pub named_size : List ℕ → ℕ
named_size text = if is_named_part text then part_len text + 3 else 0

-- the size of a named part in front is that of its text, and there is none else
pub record IsNamedByText (text : List ℕ) : Type 0 where
  pub told : (size : ℕ) → HasNamedPart text size → named_size text ≡ size
  pub only : 0 < named_size text → HasNamedPart text (named_size text)

-- of the escape, named part or byte in front, inside a bracket; 0 where none stands there
abbrev pub member_size : List ℕ → ℕ
member_size text =
    if is_escape text then 2
    else if is_named_part text then named_size text
    else if front is_bracket_byte text then 1
    else 0

abbrev pub one_if : Bool → ℕ
one_if passes = if passes then 1 else 0

-- of `[` with an optional `^` and then an optional `]`
abbrev pub opening_size : List ℕ → ℕ
opening_size text =
    let turned = one_if (begins_with caret (drop 1 text)) in
    1 + turned + one_if (begins_with closing_bracket (drop (1 + turned) text))

-- A bracket begins the text: its opening, members, and the next `]` behind them, on the line.
pub record IsBracket (text : List ℕ) (size : ℕ) : Type 0 where
  pub inside : ℕ
  pub opened : IsTrue (begins_with opening_bracket text)
  pub closed : Covers (HasSize member_size) (λ rest. IsTrue (begins_with closing_bracket rest)) (drop (opening_size text) text) inside
  pub ends : size ≡ opening_size text + inside + 1

-- ---- patterns

-- what begins with the front of a pattern's rest; nothing does at a blank, a newline and the end
abbrev pub unit_kind : List ℕ → UnitKind
unit_kind text =
    if is_escape text then Escape
    else if begins_with double_quote text then Quoted
    else if begins_with opening_bracket text then Bracket
    else if front_or_end is_space text then Nothing
    else Plain

-- it has this size where it is closed; else it goes to the line's end
abbrev pub ClosedOrLine : (List ℕ → ℕ → Type 0) → List ℕ → ℕ → Type 0
ClosedOrLine Closed text size = Closed text size ⊎ (((n : ℕ) → ¬ Closed text n) × (size ≡ line_len text))

abbrev pub UnitOf : UnitKind → List ℕ → ℕ → Type 0
UnitOf Escape text size = size ≡ 2
UnitOf Quoted text size = ClosedOrLine IsQuotedText text size
UnitOf Bracket text size = ClosedOrLine IsBracket text size
UnitOf Plain text size = size ≡ 1
UnitOf Nothing text size = ⊥

-- an escape, a quoted text, a bracket or another byte stands in front, and has this size
abbrev pub IsUnit : List ℕ → ℕ → Type 0
IsUnit text size = UnitOf (unit_kind text) text size

-- The extent of the pattern in front of the text: units, up to a blank, a newline or the end.
abbrev pub IsPattern : List ℕ → ℕ → Type 0
IsPattern text n = Covers IsUnit (λ rest. IsTrue (front_or_end is_space rest)) text n
