-- The item at the front of a text, or why there is none, by what the text begins with.
use Rattle.std.specs.Prelude.{ℕ, ◌+◌, ◌==◌, ◌||◌, not, if◌then◌else◌, List, [], ◌∷◌, Option, Some, None}
use Rattle.cs_bytes.specs.Names.{backslash, caret, closing_parenthesis, dollar, double_quote, full_stop, newline, opening_brace, opening_bracket, opening_parenthesis, plus_sign, question_mark, slash, star, vertical_bar}
use Rattle.cs_pattern_parts.specs.declared.items.item.Repetition.{Repetition}
use Rattle.cs_pattern_parts.specs.declared.items.item.Repetition.TheVariants.{Optional, AtLeast}
use Rattle.cs_pattern_parts.specs.declared.items.front.Stop.{Stop}
use Rattle.cs_pattern_parts.specs.declared.items.front.Stop.TheVariants.{Anchor, Trailing, Collation, Syntax}
use Rattle.cs_pattern_parts.specs.Items.Members.{bytes_where}
use Rattle.cs_pattern_parts.specs.Items.ByteKind.{is_plain}
use Rattle.cs_pattern_parts.specs.Items.Character.{escape}
use Rattle.cs_pattern_parts.specs.Items.Quoted as quotes
use Rattle.cs_pattern_parts.specs.Items.Bracket.{Bracket, set, collation, nothing, bracket}
use Rattle.cs_pattern_parts.specs.Items.Interval.{interval, name}
use Rattle.cs_pattern_parts.specs.Items.Items.{Item, class, quoted, named, opening, closing, bar, repetition}

-- an item and its size, or why there is none
pub data Front : Type 0 where
  item : Item → ℕ → Front
  stop : Stop → Front

abbrev pub one_byte_item : ℕ → Item
one_byte_item b = class (bytes_where (λ c. c == b))

-- `.`: every byte but newline
abbrev pub any_byte : Item
any_byte = class (bytes_where (λ c. not (c == newline)))

abbrev pub escape_front : Option (Option ℕ × ℕ) → Front
escape_front None = stop Syntax
escape_front (Some (None, n)) = stop Syntax
escape_front (Some (Some b, n)) = item (one_byte_item b) (n + 1)

abbrev pub quoted_front : Option (List ℕ × ℕ) → Front
quoted_front None = stop Syntax
quoted_front (Some (bytes, n)) = item (quoted bytes) (n + 1)

abbrev pub bracket_front : Bracket → Front
bracket_front (set bytes n) = item (class bytes) (n + 1)
bracket_front collation = stop Collation
bracket_front nothing = stop Syntax

abbrev pub name_front : Option (List ℕ × ℕ) → Front
name_front None = stop Syntax
name_front (Some (bytes, n)) = item (named bytes) (n + 1)

abbrev pub brace_front : Option (Repetition × ℕ) → Option (List ℕ × ℕ) → Front
brace_front (Some (r, n)) word = item (repetition r) (n + 1)
brace_front None word = name_front word

-- what stands behind a `{`
abbrev pub brace : List ℕ → Front
brace rest = brace_front (interval rest) (name rest)

-- a byte that begins nothing longer
unfoldable pub sign_front : ℕ → Front
sign_front b =
    if b == full_stop then item any_byte 1
    else (if b == opening_parenthesis then item opening 1 else (if b == closing_parenthesis then item closing 1 else (if b == vertical_bar then item bar 1
    else (if b == star then item (repetition (AtLeast 0)) 1 else (if b == plus_sign then item (repetition (AtLeast 1)) 1
    else (if b == question_mark then item (repetition Optional) 1 else (if (b == caret) || (b == dollar) then stop Anchor
    else (if b == slash then stop Trailing else (if is_plain b then item (one_byte_item b) 1 else stop Syntax)))))))))

-- what stands at the front; nothing does at the end
unfoldable pub front : List ℕ → Front
front [] = stop Syntax
front (b ∷ rest) =
    if b == backslash then escape_front (escape rest) else (if b == double_quote then quoted_front (quotes.quoted rest)
    else (if b == opening_bracket then bracket_front (bracket rest) else (if b == opening_brace then brace_front (interval rest) (name rest) else sign_front b)))
