-- What the code's values are.
use Rattle.std.specs.Prelude.{◌≡◌, ℕ, ◌<◌, ◌≤◌, ◌++◌, List, map, Option, option_map}
use Rattle.cs_pattern_parts.specs.declared.items.item.Item as code
use Rattle.cs_pattern_parts.specs.declared.items.item.Item.TheVariants as items
use Rattle.cs_pattern_parts.specs.declared.items.item.Placed as held
use Rattle.cs_pattern_parts.specs.declared.items.mark.BracketMark as code_marks
use Rattle.cs_pattern_parts.specs.declared.items.mark.BracketMark.TheVariants as mark_kinds
use Rattle.cs_pattern_parts.specs.declared.items.bracket.Bracket as code_brackets
use Rattle.cs_pattern_parts.specs.declared.items.bracket.Bracket.TheVariants as bracket_kinds
use Rattle.cs_pattern_parts.specs.declared.items.front.Front as code_fronts
use Rattle.cs_pattern_parts.specs.declared.items.front.Front.TheVariants as front_kinds
use Rattle.cs_pattern_parts.specs.Items.Items.{Item, class, quoted, named, opening, closing, bar, repetition, Placed}
use Rattle.cs_pattern_parts.specs.Items.Brackets.{BracketMark, plain, escaped, collating}
use Rattle.cs_pattern_parts.specs.Items.Brackets as spelled
use Rattle.cs_pattern_parts.specs.Items.Marks as marks
use Rattle.cs_pattern_parts.specs.Items.Steps.{steps}
use Rattle.cs_pattern_parts.specs.Items.Bracket as brackets
use Rattle.cs_pattern_parts.specs.Items.Front as fronts
use Rattle.cs_pattern_parts.specs.Items.Spelling.{Spells, IsStoppedBy}

abbrev pub item_of : code.Item → Item
item_of (items.Class set) = class set
item_of (items.Quoted bytes) = quoted bytes.items
item_of (items.Name bytes) = named bytes.items
item_of items.Open = opening
item_of items.Close = closing
item_of items.Bar = bar
item_of (items.Repeat r) = repetition r

abbrev pub placed_of : held.Placed → Placed
placed_of p = record { at = p.at; item = item_of p.item }

abbrev pub placed_all : List held.Placed → List Placed
placed_all = map placed_of

abbrev pub mark_of : code_marks.BracketMark → BracketMark
mark_of (mark_kinds.Plain b) = plain b
mark_of (mark_kinds.Escape b) = escaped b
mark_of (mark_kinds.Class name) = spelled.class name.now
mark_of mark_kinds.Collating = collating

abbrev pub marks_of : List code_marks.BracketMark → List BracketMark
marks_of = map mark_of

-- the marks from the front of the text on are added
abbrev pub AddsMarks : List ℕ → List code_marks.BracketMark → List code_marks.BracketMark → Type 0
AddsMarks text old new = marks_of new ≡ marks_of old ++ (steps marks.mark text).0

-- a mark and its size
abbrev pub sized_mark : Option (code_marks.BracketMark × ℕ) → Option (BracketMark × ℕ)
sized_mark = option_map (λ p. (mark_of p.0, p.1))

abbrev pub bracket_of : code_brackets.Bracket → brackets.Bracket
bracket_of (bracket_kinds.Set set n) = brackets.set set n
bracket_of bracket_kinds.Collation = brackets.collation
bracket_of bracket_kinds.Nothing = brackets.nothing

-- a set ends within so many bytes
abbrev pub IsWithin : ℕ → code_brackets.Bracket → Type 0
IsWithin most (bracket_kinds.Set set n) = n ≤ most
IsWithin most bracket_kinds.Collation = Unit {0}
IsWithin most bracket_kinds.Nothing = Unit {0}

-- an item takes a byte or more, and ends within so many
abbrev pub FrontWithin : ℕ → code_fronts.Front → Type 0
FrontWithin most (front_kinds.Item i n) = (0 < n) × (n ≤ most)
FrontWithin most (front_kinds.Stop s) = Unit {0}

abbrev pub front_of : code_fronts.Front → fronts.Front
front_of (front_kinds.Item i n) = fronts.item (item_of i) n
front_of (front_kinds.Stop s) = fronts.stop s

-- the text spells the item in front, or it is stopped by this
abbrev pub IsFront : List ℕ → code_fronts.Front → Type 0
IsFront text (front_kinds.Item i n) = Spells text n (item_of i)
IsFront text (front_kinds.Stop s) = IsStoppedBy text s
