-- Which item may stand where in a pattern's text, and where reading stops.
use Rattle.std.specs.Prelude.{◌≡◌, ℕ, zero, suc, ◌+◌, ◌<◌, ◌⊎◌, Bool, true, false, List, [], ◌∷◌, Option, Some, None, length, drop}
use Rattle.cs_bytes.specs.Names.{less_sign}
use Rattle.cs_pattern.specs.declared.text.place.PatternPlace.{PatternPlace}
use Rattle.cs_pattern_parts.specs.declared.items.front.Stop.{Stop}
use Rattle.cs_pattern_parts.specs.declared.items.front.Stop.TheVariants.{Syntax}
use Rattle.cs_pattern.specs.declared.text.fault.PatternFault.{PatternFault}
use Rattle.cs_pattern.specs.declared.text.fault.PatternFault.TheVariants as faults
use Rattle.cs_pattern_parts.specs.declared.items.front.Stop.TheVariants as stops
use Rattle.cs_bytes.specs.Places.{has_at}
use Rattle.cs_pattern_parts.specs.Items.Items.{Item, class, quoted, named, opening, closing, bar, repetition, Placed}
use Rattle.cs_pattern_parts.specs.Items.Spelling.{Spells, IsStoppedBy}

abbrev pub place : Bool → ℕ → PatternPlace
place behind groups = record { behind_atom = behind; groups = groups }

abbrev pub beginning : PatternPlace
beginning = place false 0

-- behind an atom or a repetition alone
abbrev pub if_behind : Bool → PatternPlace → Option PatternPlace
if_behind true p = Some p
if_behind false p = None

abbrev pub closed : Bool → ℕ → Option PatternPlace
closed true (suc groups) = Some (place true groups)
closed true zero = None
closed false groups = None

-- The table: the place behind the item, where it may stand at the place.
abbrev pub next_place : PatternPlace → Item → Option PatternPlace
next_place p (class s) = Some (place true p.groups)
next_place p (quoted bytes) = Some (place true p.groups)
next_place p (named name) = Some (place true p.groups)
next_place p opening = Some (place false (p.groups + 1))
next_place p closing = closed p.behind_atom p.groups
next_place p bar = if_behind p.behind_atom (place false p.groups)
next_place p (repetition r) = if_behind p.behind_atom p

-- the places at which a text may end
abbrev pub MayEnd : PatternPlace → Type 0
MayEnd p = p ≡ place true 0

-- From one offset and place to another these items stand, each where it may stand.
abbrev pub ReadsTo : List ℕ → ℕ → PatternPlace → List Placed → ℕ → PatternPlace → Type 0
ReadsTo bytes at p [] to last = (at ≡ to) × (p ≡ last)
ReadsTo bytes at p (x ∷ xs) to last =
    (size : ℕ) × (next : PatternPlace) × (x.at ≡ at) × Spells (drop at bytes) size x.item × (next_place p x.item ≡ Some next) × ReadsTo bytes (at + size) next xs to last

-- the first byte is no `<`, with which a start condition would begin
abbrev pub IsPlainText : List ℕ → Type 0
IsPlainText bytes = has_at bytes 0 less_sign ≡ false

-- The text is read into these items, all of it.
pub record Reads (bytes : List ℕ) (items : List Placed) : Type 0 where
  pub plain : IsPlainText bytes
  pub last : PatternPlace
  pub read : ReadsTo bytes 0 beginning items (length bytes) last
  pub ends : MayEnd last

-- the text spells an item in front that may not stand at the place
abbrev pub SpellsMisplaced : PatternPlace → List ℕ → Type 0
SpellsMisplaced p text = (i : Item) × (size : ℕ) × Spells text size i × (next_place p i ≡ None)

-- At a place reading doesn't go on with the text: it spells no item in front, or one that may not stand there.
abbrev pub StopsWith : PatternPlace → List ℕ → Stop → Type 0
StopsWith p text why = IsStoppedBy text why ⊎ (SpellsMisplaced p text × (why ≡ Syntax))

-- at the end of the text
abbrev pub StopsAtEnd : PatternPlace → Stop → Type 0
StopsAtEnd p why = (MayEnd p → ⊥) × (why ≡ Syntax)

-- Reading stops at the offset: items lead there, and it doesn't go on.
pub record StopsAt (bytes : List ℕ) (at : ℕ) (why : Stop) : Type 0 where
  pub plain : IsPlainText bytes
  pub items : List Placed
  pub last : PatternPlace
  pub read : ReadsTo bytes 0 beginning items at last
  pub stops : ((at < length bytes) × StopsWith last (drop at bytes) why) ⊎ ((at ≡ length bytes) × StopsAtEnd last why)

-- the fault of a stop
abbrev pub fault_of : Stop → ℕ → PatternFault
fault_of stops.Anchor at = faults.Anchor at
fault_of stops.Trailing at = faults.Trailing at
fault_of stops.Collation at = faults.Collation at
fault_of stops.Syntax at = faults.Syntax at

-- the first place where reading stops, and its fault
abbrev pub IsFirstStop : List ℕ → PatternFault → Type 0
IsFirstStop bytes fault = ((has_at bytes 0 less_sign ≡ true) × (fault ≡ faults.Condition 0)) ⊎ ((at : ℕ) × (why : Stop) × StopsAt bytes at why × (fault ≡ fault_of why at))
