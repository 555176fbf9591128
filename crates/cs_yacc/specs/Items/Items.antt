-- The items of a yacc file, and what text is read into which items (POSIX yacc, the grammar file).
use Rattle.std.specs.Prelude.{◌≡◌, ℕ, suc, ◌+◌, ◌-◌, ◌≤◌, ◌<◌, List, [], ◌∷◌, length, take, drop, Some, None, slice_get, IsTrue, codes, map}
use Rattle.std.specs.List.{AllByRecursion, position_or_len}
use Rattle.cs_ctext.specs.Comments.{IsComment, IsOpenComment}
use Rattle.cs_ctext.specs.Blocks.{IsBlock}
use Rattle.cs_ctext.specs.Literals.{IsLiteral}
use Rattle.cs_yacc.specs.declared.items.directive.Directive.{Directive}
use Rattle.cs_bytes.specs.Names.{percent, less_sign, greater_sign, closing_brace}
use Rattle.cs_bytes.specs.Classes.{is_white_space, is_digit}
use Rattle.cs_bytes.specs.Places.{BeginsWith, IsFirstPair}
use Rattle.cs_yacc.specs.Items.Bytes.{begins_name, is_name_byte, is_directive_byte, ends_tag}
use Rattle.cs_yacc.specs.Items.Directives.{directive_of}

pub data Item : Type 0 where
  -- `%%`
  mark : Item
  -- `%{` through `%}`
  prologue : Item
  -- `%` and the word of a directive
  directive : Directive → Item
  -- `%` and a word that no directive has
  unknown : List ℕ → Item
  name : List ℕ → Item
  -- a byte between quotes
  literal : ℕ → Item
  -- decimal digits
  number : Item
  -- `<` through `>`
  tag : Item
  -- `{` through the matching `}`
  block : Item
  colon : Item
  semicolon : Item
  bar : Item
  comma : Item

-- the first n bytes of the text are these
abbrev pub Shows : List ℕ → List ℕ → ℕ → Type 0
Shows text bytes n = (take n text ≡ bytes) × (n ≡ length bytes)

abbrev pub IsName : List ℕ → Type 0
IsName [] = ⊥
IsName (b ∷ rest) = IsTrue (begins_name b) × AllByRecursion (λ c. IsTrue (is_name_byte c)) rest

abbrev pub IsDirectiveWord : List ℕ → Type 0
IsDirectiveWord [] = ⊥
IsDirectiveWord (b ∷ rest) = IsTrue (is_directive_byte b) × AllByRecursion (λ c. IsTrue (is_directive_byte c)) rest

abbrev pub IsNumber : List ℕ → Type 0
IsNumber [] = ⊥
IsNumber (b ∷ rest) = IsTrue (is_digit b) × AllByRecursion (λ c. IsTrue (is_digit c)) rest

-- The text begins with `%{`, and the first `%}` behind it stands behind `inside` bytes.
pub record IsPrologue (text : List ℕ) (size : ℕ) : Type 0 where
  pub inside : ℕ
  pub opened : BeginsWith (codes "%{") text
  pub closed : IsFirstPair percent closing_brace (drop 2 text) inside
  pub ends : size ≡ inside + 4

-- The text begins with `<`, and the first `>` or newline behind it is a `>`.
abbrev pub IsTag : List ℕ → ℕ → Type 0
IsTag [] n = ⊥
IsTag (b ∷ text) n = (b ≡ less_sign) × (slice_get text (position_or_len ends_tag text) ≡ Some greater_sign) × (n ≡ position_or_len ends_tag text + 2)

-- the first n bytes of the text spell the item
abbrev pub Spells : List ℕ → ℕ → Item → Type 0
Spells text n mark = Shows text (codes "%%") n
Spells text n prologue = IsPrologue text n
Spells text n (directive d) = (word : List ℕ) × Shows text (percent ∷ word) n × IsDirectiveWord word × (directive_of word ≡ Some d)
Spells text n (unknown word) = Shows text (percent ∷ word) n × IsDirectiveWord word × (directive_of word ≡ None)
Spells text n (name w) = Shows text w n × IsName w
Spells text n (literal b) = IsLiteral text b n
Spells text n number = (digits : List ℕ) × Shows text digits n × IsNumber digits
Spells text n tag = IsTag text n
Spells text n block = IsBlock text n
Spells text n colon = Shows text (codes ":") n
Spells text n semicolon = Shows text (codes ";") n
Spells text n bar = Shows text (codes "|") n
Spells text n comma = Shows text (codes ",") n

-- The item stands at the front of the text: no longer front of it spells an item.
pub record BeginsItem (text : List ℕ) (item : Item) (size : ℕ) : Type 0 where
  pub within : size ≤ length text
  pub spelled : Spells text size item
  pub longest : (other : Item) (n : ℕ) → n ≤ length text → Spells text n other → n ≤ size

-- reading takes the item: it is no directive with an unknown word
abbrev pub IsKnown : Item → Type 0
IsKnown (unknown word) = ⊥
IsKnown item = Unit {0}

-- no item that reading takes stands at the front of the text
abbrev pub BeginsNoItem : List ℕ → Type 0
BeginsNoItem text = (item : Item) (size : ℕ) → IsKnown item → BeginsItem text item size → ⊥

-- The first n bytes of the text stand between items: blanks and closed comments.
pub data IsGap : List ℕ → ℕ → Type 0 where
  nothing : {text : List ℕ} → IsGap text 0
  blank : {b : ℕ} {text : List ℕ} {n : ℕ} → IsTrue (is_white_space b) → IsGap text n → IsGap (b ∷ text) (suc n)
  comment : {text : List ℕ} {c n m : ℕ} → IsComment text c → IsGap (drop c text) n → m ≡ c + n → IsGap text m

-- an item, and the offset of its first byte
pub record Placed : Type 0 where
  pub at : ℕ
  pub item : Item

abbrev pub items_of : List Placed → List Item
items_of = map (λ p. p.item)

-- Behind the offset `from` this item stands next, reading takes it, and it ends before `to`.
pub record Follows (bytes : List ℕ) (from : ℕ) (p : Placed) (to : ℕ) : Type 0 where
  pub gap : (n : ℕ) × IsGap (drop from bytes) n × (p.at ≡ from + n)
  pub item : (size : ℕ) × BeginsItem (drop p.at bytes) p.item size × (to ≡ p.at + size)
  pub known : IsKnown p.item

-- how far reading has come: an offset, and how many marks stand before it
pub record Reached : Type 0 where
  pub at : ℕ
  pub marks : ℕ

abbrev pub start : Reached
start = record { at = 0; marks = 0 }

abbrev pub marks_behind : ℕ → Item → ℕ
marks_behind marks mark = suc marks
marks_behind marks item = marks

-- Reading goes on over these items, one behind the other, and over none behind a second mark.
abbrev pub ReadsTo : List ℕ → Reached → List Placed → Reached → Type 0
ReadsTo bytes r [] to = r ≡ to
ReadsTo bytes r (p ∷ ps) to = (r.marks < 2) × (next : ℕ) × Follows bytes r.at p next × ReadsTo bytes (record { at = next; marks = marks_behind r.marks p.item }) ps to

-- Reading ends there: behind the second mark, or where nothing but a gap is left.
pub data ReadingEnds : List ℕ → Reached → Type 0 where
  at_mark : {bytes : List ℕ} {r : Reached} → r.marks ≡ 2 → ReadingEnds bytes r
  at_end : {bytes : List ℕ} {r : Reached} → r.marks < 2 → r.at ≤ length bytes → IsGap (drop r.at bytes) (length bytes - r.at) → ReadingEnds bytes r

-- The bytes are read into these items.
pub record Reads (bytes : List ℕ) (items : List Placed) : Type 0 where
  pub to : Reached
  pub read : ReadsTo bytes start items to
  pub ends : ReadingEnds bytes to

-- Behind the offset `from` reading stops at `at`: bytes are left there, and neither a gap nor an item begins with them.
pub record Stops (bytes : List ℕ) (from at : ℕ) : Type 0 where
  pub gap : (n : ℕ) × IsGap (drop from bytes) n × (at ≡ from + n)
  pub left : at < length bytes
  pub no_gap : (n : ℕ) → IsGap (drop at bytes) (suc n) → ⊥
  pub no_item : BeginsNoItem (drop at bytes)

-- Reading takes these items, and stops at the offset.
pub record StopsAt (bytes : List ℕ) (items : List Placed) (at : ℕ) : Type 0 where
  pub from : Reached
  pub read : ReadsTo bytes start items from
  pub more : from.marks < 2
  pub stops : Stops bytes from.at at

-- ---- the three ways in which reading stops

-- a comment, a prologue or a block begins the text, and isn't closed
pub data IsOpen : List ℕ → Type 0 where
  open_comment : {text : List ℕ} → IsOpenComment text → IsOpen text
  open_prologue : {text : List ℕ} → BeginsWith (codes "%{") text → ((n : ℕ) → ¬ IsPrologue text n) → IsOpen text
  open_block : {text : List ℕ} → BeginsWith (codes "{") text → ((n : ℕ) → ¬ IsBlock text n) → IsOpen text

-- a directive of an unknown word begins the text
abbrev pub BeginsUnknown : List ℕ → Type 0
BeginsUnknown text = (word : List ℕ) × (size : ℕ) × BeginsItem text (unknown word) size

-- neither begins the text
abbrev pub BeginsNeither : List ℕ → Type 0
BeginsNeither text = (¬ IsOpen text) × (¬ BeginsUnknown text)
