-- An item that a text spells in front has a byte, and is no longer than the text.
use Rattle.std.proofs.Common.{ℕ, ◌≤◌, ◌<◌, List, [], ◌∷◌, length, ap, arith, length-append}
use Rattle.std.specs.Prelude.{Option, Some, codes}
use Rattle.std.proofs.lemmas.List.Sums.{prefix_len-le-length}
use Rattle.std.proofs.lemmas.Option.{slice_get_within}
use Rattle.cs_bytes.specs.Classes.{is_octal_digit, is_hexadecimal_digit}
use Rattle.cs_bytes.specs.Names.{double_quote, closing_bracket}
use Rattle.cs_pattern_parts.specs.declared.items.item.Repetition.{Repetition}
use Rattle.cs_pattern_parts.specs.Items.Brackets.{BracketMark, IsClosed, upright, inverted}
use Rattle.cs_pattern_parts.specs.Items.Items.{Item, class, quoted, named, opening, closing, bar, repetition}
use Rattle.cs_pattern_parts.specs.Items.Parts.{Shows, Escapes, octal_digits, hexadecimal_digits, itself_or_control}
use Rattle.cs_pattern_parts.specs.Items.Spelling as spelling
use Rattle.cs_pattern_parts.specs.Items.Spelling.{Spells, SpellsClass, SpellsRepetition, IsQuoted, braced}

abbrev IsSizeOf : List ℕ → ℕ → Type 0
IsSizeOf text n = (0 < n) × (n ≤ length text)

shows_size : (text bytes : List ℕ) (n : ℕ) → 0 < length bytes → Shows text bytes n → IsSizeOf text n
shows_size text bytes n some s = let size = s.size in let whole = ap length s.is in (omega arith, omega (arith, length-append bytes s.rest))

escape_size : (text : List ℕ) (n : ℕ) (o : Option ℕ) → Escapes text n o → n ≤ length text
escape_size text n o (octal_digits t m b e pos is) = omega (arith, prefix_len-le-length is_octal_digit text)
escape_size text n o (hexadecimal_digits t m b e pos is) = omega (arith, prefix_len-le-length is_hexadecimal_digit t)
escape_size text n o (itself_or_control b t byte k l m is) = omega arith

quoted_size : (text : List ℕ) (n : ℕ) (bytes : List ℕ) → IsQuoted text n bytes → IsSizeOf text n
quoted_size text n bytes (spelling.closed t m bs inside ends) = let lt = slice_get_within t m double_quote ends in (omega arith, omega arith)

bracket_size : (text : List ℕ) (n : ℕ) (i : _) (ms : List BracketMark) → IsClosed text n i ms → IsSizeOf text n
bracket_size text n i ms (upright t m marks none are ends) = let lt = slice_get_within t m closing_bracket ends in (omega arith, omega arith)
bracket_size text n i ms (inverted t m marks are ends) = let lt = slice_get_within t m closing_bracket ends in (omega arith, omega arith)

class_size : (text : List ℕ) (n : ℕ) (set : List ℕ) → SpellsClass text n set → IsSizeOf text n
class_size text n set (spelling.byte b plain s) = shows_size text (b ∷ []) n (omega arith) s
class_size text n set (spelling.escape rest m b is e size) = let whole = ap length is in (omega arith, omega (arith, escape_size rest m (Some b) e))
class_size text n set (spelling.full_stop s) = shows_size text (codes ".") n (omega arith) s
class_size text n set (spelling.bracket s b) = bracket_size text n b.inverted b.marks b.closed

repetition_size : (text : List ℕ) (n : ℕ) (r : Repetition) → SpellsRepetition text n r → IsSizeOf text n
repetition_size text n r (spelling.star s) = shows_size text (codes "*") n (omega arith) s
repetition_size text n r (spelling.plus_sign s) = shows_size text (codes "+") n (omega arith) s
repetition_size text n r (spelling.question_mark s) = shows_size text (codes "?") n (omega arith) s
repetition_size text n r (spelling.interval bytes q is s) = shows_size text (braced bytes) n (omega arith) s

pub item_size : (text : List ℕ) (n : ℕ) (i : Item) → Spells text n i → IsSizeOf text n
item_size text n (class set) s = class_size text n set s
item_size text n (quoted bytes) s = quoted_size text n bytes s
item_size text n (named name) s = shows_size text (braced name) n (omega arith) s.1
item_size text n opening s = shows_size text (codes "(") n (omega arith) s
item_size text n closing s = shows_size text (codes ")") n (omega arith) s
item_size text n bar s = shows_size text (codes "|") n (omega arith) s
item_size text n (repetition r) s = repetition_size text n r s
