-- Where spellings stand in a list in which each stands once.
use Rattle.std.specs.Prelude.{◌≡◌, ℕ, List, map, Some, slice_get, get_or}
use Rattle.std.specs.List.{AllZip, position_or_len}
use Rattle.cs_yacc.specs.declared.reading.name.TokenName.{TokenName}
use Rattle.cs_yacc.specs.declared.reading.name.TokenName.TheVariants.{Word, Byte}
use Rattle.cs_yacc.specs.declared.reading.meaning.Meant.{Meant}
use Rattle.cs_yacc.specs.Reading.Meaning.{same_spelling}
use Rattle.cs_yacc.specs.Reading.SpellingView.{items_in}
use Rattle.cs_yacc.specs.Items.Items.{Item, name, literal, Placed}
use Rattle.cs_yacc.specs.Items.Views.{placed_all}

-- the spelling at a place of the list
abbrev pub name_at : List TokenName → ℕ → TokenName
name_at words k = get_or words k (Byte 0)

abbrev pub names_at : List TokenName → List ℕ → List TokenName
names_at words places = map (name_at words) places

-- the place of a spelling in the list, or the list's length
abbrev pub place_in : List TokenName → TokenName → ℕ
place_in words w = position_or_len (same_spelling w) words

-- at the place stands the item's spelling, if it has one
abbrev pub IsPlace : List TokenName → Item → ℕ → Type 0
IsPlace words (name n) k = slice_get words k ≡ Some (Word n)
IsPlace words (literal b) k = slice_get words k ≡ Some (Byte b)
IsPlace words i k = Unit {0}

-- these are the places of the items, one for each
abbrev pub ArePlaces : List TokenName → List Item → List ℕ → Type 0
ArePlaces words items places = AllZip (IsPlace words) items places

-- the items with a meaning
abbrev pub meant_in : Meant → List Placed
meant_in m = placed_all m.items.items

-- with the places of these
abbrev pub HasPlaces : Meant → Type 0
HasPlaces m = ArePlaces m.words (items_in m.items.items) m.places.items
