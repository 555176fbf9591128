-- Brackets (POSIX, "RE bracket expression", in the POSIX locale).
use Rattle.std.specs.Prelude.{◌≡◌, ◌≢◌, ◌⊎◌, ◌↔◌, ℕ, ◌+◌, ◌<◌, ◌≤◌, Bool, true, false, List, [], ◌∷◌, ◌++◌, Contains, Option, Some, slice_get}
use Rattle.std.specs.List.{list_all, AllByRecursion}
use Rattle.cs_bytes.specs.Names.{newline, backslash, dash, caret, full_stop, colon_sign, equals_sign, opening_bracket, closing_bracket}
use Rattle.cs_pattern_parts.specs.declared.items.bracket.Class.{Class}
use Rattle.cs_bytes.specs.Classes.{is_inner}
use Rattle.cs_pattern_parts.specs.Items.Members.{IsByteSet, has}
use Rattle.cs_pattern_parts.specs.Items.NamedClasses.{class_of, is_in_class}
use Rattle.cs_pattern_parts.specs.Items.Parts.{Shows, Escapes, InTurn, BeginsWithByte}

-- ---- the marks of a bracket

-- what stands inside a bracket, one mark after another
pub data BracketMark : Type 0 where
  -- a byte that stands for itself
  plain : ℕ → BracketMark
  -- an escape, with its byte, if it has one
  escaped : Option ℕ → BracketMark
  -- `[:name:]`
  class : List ℕ → BracketMark
  -- `[.name.]` or `[=name=]`
  collating : BracketMark

-- `[`, a byte of the kind, a name, that byte again, and `]`
abbrev pub part : ℕ → List ℕ → List ℕ
part kind name = opening_bracket ∷ kind ∷ (name ++ kind ∷ closing_bracket ∷ [])

-- the first n bytes of the text are a named part: it is on one line, and no `]` stands in its name
pub data IsBracketPart (text : List ℕ) (n : ℕ) : BracketMark → Type 0 where
  of_class : (name : List ℕ) → list_all is_inner name ≡ true → Shows text (part colon_sign name) n → IsBracketPart text n (class name)
  of_symbol : (name : List ℕ) → list_all is_inner name ≡ true → Shows text (part full_stop name) n → IsBracketPart text n collating
  of_equivalence : (name : List ℕ) → list_all is_inner name ≡ true → Shows text (part equals_sign name) n → IsBracketPart text n collating

-- the first n bytes of the text are the mark: a byte that stands for itself, an escape or a named part
pub data IsMark : List ℕ → ℕ → BracketMark → Type 0 where
  itself : (b : ℕ) (text : List ℕ) → b ≢ newline → b ≢ closing_bracket → b ≢ backslash → ((n : ℕ) (m : BracketMark) → IsBracketPart (b ∷ text) n m → ⊥) → IsMark (b ∷ text) 1 (plain b)
  escape : (text : List ℕ) (n : ℕ) (byte : Option ℕ) → Escapes text n byte → IsMark (backslash ∷ text) (n + 1) (escaped byte)
  named : (text : List ℕ) (n : ℕ) (m : BracketMark) → IsBracketPart text n m → IsMark text n m

-- the marks behind a `[` or `[^`, where a `]` that stands first stands for itself
pub data AreMarks : List ℕ → ℕ → List BracketMark → Type 0 where
  closing_first : (text : List ℕ) (n : ℕ) (ms : List BracketMark) → InTurn IsMark text n ms → AreMarks (closing_bracket ∷ text) (n + 1) (plain closing_bracket ∷ ms)
  others : (text : List ℕ) (n : ℕ) (ms : List BracketMark) → (BeginsWithByte text closing_bracket → ⊥) → InTurn IsMark text n ms → AreMarks text n ms

-- The first n bytes of the text are a closed bracket with these marks. The test says whether a `^` stands first.
pub data IsClosed : List ℕ → ℕ → Bool → List BracketMark → Type 0 where
  upright : (text : List ℕ) (n : ℕ) (ms : List BracketMark) → (BeginsWithByte text caret → ⊥) → AreMarks text n ms → slice_get text n ≡ Some closing_bracket → IsClosed (opening_bracket ∷ text) (n + 2) false ms
  inverted : (text : List ℕ) (n : ℕ) (ms : List BracketMark) → AreMarks text n ms → slice_get text n ≡ Some closing_bracket → IsClosed (opening_bracket ∷ caret ∷ text) (n + 3) true ms

-- ---- its members

-- a member of a bracket: one mark, or two marks with a `-` between them
pub data Member : Type 0 where
  one : BracketMark → Member
  range : BracketMark → BracketMark → Member

-- these marks are those members: a `-` between two marks makes a range of them
pub data AreMembers : List BracketMark → List Member → Type 0 where
  none : AreMembers [] []
  ranging : (x y : BracketMark) (rest : List BracketMark) (ms : List Member) → AreMembers rest ms → AreMembers (x ∷ plain dash ∷ y ∷ rest) (range x y ∷ ms)
  single : (x : BracketMark) (rest : List BracketMark) (ms : List Member) → ((y : BracketMark) (more : List BracketMark) → rest ≡ plain dash ∷ y ∷ more → ⊥) → AreMembers rest ms → AreMembers (x ∷ rest) (one x ∷ ms)

-- the mark stands for the byte
abbrev pub IsByteOf : BracketMark → ℕ → Type 0
IsByteOf (plain c) b = c ≡ b
IsByteOf (escaped byte) b = byte ≡ Some b
IsByteOf (class name) b = ⊥
IsByteOf collating b = ⊥

-- a member that a bracket may have: its class is known, its escape has a byte, its range is of two bytes and doesn't go down
abbrev pub IsAllowed : Member → Type 0
IsAllowed (one (plain c)) = Unit {0}
IsAllowed (one (escaped byte)) = (b : ℕ) × (byte ≡ Some b)
IsAllowed (one (class name)) = (k : Class) × (class_of name ≡ Some k)
IsAllowed (one collating) = ⊥
IsAllowed (range x y) = (first : ℕ) × (last : ℕ) × IsByteOf x first × IsByteOf y last × (first ≤ last)

-- the byte is of the member
abbrev pub IsIn : Member → ℕ → Type 0
IsIn (one (plain c)) b = c ≡ b
IsIn (one (escaped byte)) b = byte ≡ Some b
IsIn (one (class name)) b = (k : Class) × (class_of name ≡ Some k) × (is_in_class k b ≡ true)
IsIn (one collating) b = ⊥
IsIn (range x y) b = (first : ℕ) × (last : ℕ) × IsByteOf x first × IsByteOf y last × (first ≤ b) × (b ≤ last)

-- the byte is of one of the members
abbrev pub IsInAny : List Member → ℕ → Type 0
IsInAny [] b = ⊥
IsInAny (m ∷ ms) b = IsIn m b ⊎ IsInAny ms b

-- the byte is of the bracket: of one of the members, or of none where a `^` stands first
abbrev pub IsOf : Bool → List Member → ℕ → Type 0
IsOf false ms b = IsInAny ms b
IsOf true ms b = IsInAny ms b → ⊥

-- The first n bytes of the text are a bracket of this set, which is not empty.
pub record IsBracket (text : List ℕ) (n : ℕ) (set : List ℕ) : Type 0 where
  pub inverted : Bool
  pub marks : List BracketMark
  pub members : List Member
  pub closed : IsClosed text n inverted marks
  pub grouped : AreMembers marks members
  pub allowed : AllByRecursion IsAllowed members
  pub is_set : IsByteSet set
  pub each : (b : ℕ) → b < 256 → (has set b ≡ true) ↔ IsOf inverted members b
  pub some : set ≢ []

-- the text begins with a closed bracket that has a collating symbol or an equivalence class
pub record BeginsCollation (text : List ℕ) : Type 0 where
  pub size : ℕ
  pub inverted : Bool
  pub marks : List BracketMark
  pub closed : IsClosed text size inverted marks
  pub has : Contains marks collating
