-- What the steps of reading answer.
use Rattle.std.specs.Prelude.{◌≡◌, ℕ, Bool, true, false, not, ◌&&◌, List, Option, Some, None, option_map, Result, Ok, Err, filter}
use Rattle.std.specs.List.{All}
use Rattle.std.specs.Option.{option_to_list, option_or}
use Rattle.cs_yacc.specs.declared.reading.error.YaccError.{YaccError}
use Rattle.cs_yacc.specs.declared.reading.error.YaccError.TheVariants.{TokenOnLeft, Undefined, StartNotNonterminal, Memory}
use Rattle.cs_yacc.specs.declared.reading.name.TokenName.{TokenName}
use Rattle.cs_yacc.specs.declared.reading.name.TokenName.TheVariants.{Word, Byte}
use Rattle.cs_yacc.specs.Items.Items.{Item, Placed, items_of}
use Rattle.cs_yacc.specs.Items.Views.{placed_all}
use Rattle.cs_yacc.specs.declared.items.item.Placed as held
use Rattle.cs_yacc.specs.Reading.File.{File, IsFile}
use Rattle.cs_yacc.specs.Reading.Meaning.{has_spelling, spelled, distinct, is_in_use, used, kept, nonterminals, Parts, limit_passed, file_with, first_at, is_token_on_left, first_undefined, behind_mark, wrong_start}

-- what a check that takes no memory answers: the fault, if there is one
abbrev pub FindsFault : Result (Unit {0}) YaccError → Option YaccError → Type 0
FindsFault (Ok u) fault = fault ≡ None
FindsFault (Err e) fault = fault ≡ Some e

-- what is answered is what is given; memory may run out
abbrev pub IsGiven : Result File YaccError → Result File YaccError → Type 0
IsGiven (Err Memory) given = Unit {0}
IsGiven answer given = given ≡ answer

-- the first fault of names where `%start` stands once at the most: of the item that names the start symbol, if one does, and of
-- the items with a meaning
abbrev pub fault_behind_start : List Placed → List Placed → List TokenName → List TokenName → Option YaccError
fault_behind_start start items declared lefts =
    option_or (option_map TokenOnLeft (first_at (is_token_on_left declared) items))
    (option_or (option_map Undefined (first_undefined declared lefts (behind_mark items)))
    (option_map StartNotNonterminal (wrong_start lefts start)))

-- a name that is neither declared nor a left side
abbrev pub is_unknown : List TokenName → List TokenName → TokenName → Bool
is_unknown declared lefts (Word n) = not (has_spelling declared (Word n)) && not (has_spelling lefts (Word n))
is_unknown declared lefts (Byte b) = false

-- the spellings of the items are among these
abbrev pub HoldsSpellings : List TokenName → List Item → Type 0
HoldsSpellings words items = All (λ w. has_spelling words w ≡ true) (spelled items)

-- those of the spellings that are tokens in use
abbrev pub used_among : List TokenName → List TokenName → List TokenName → List TokenName
used_among used lefts words = filter (is_in_use used lefts) words

-- the parts of the items with a meaning, where these are the spellings of all items, each once, and the item that names the
-- start symbol, if one does
abbrev pub left_parts : List TokenName → List Placed → List Placed → Parts
left_parts spelled start items = record {
  tokens = distinct (used_among (used (kept (items_of items))) (nonterminals (items_of items)) spelled);
  nonterminals = nonterminals (items_of items);
  start = start;
  rules = kept (items_of items);
}

-- the item, if there is one
abbrev pub placed_of_some : Option held.Placed → List Placed
placed_of_some item = placed_all (option_to_list item)

-- the same of the code's items
abbrev pub left_in : List TokenName → Option held.Placed → List held.Placed → Parts
left_in spelled start items = left_parts spelled (placed_of_some start) (placed_all items)

-- the parts make a file, if they pass no limit
abbrev pub FitsLimits : Parts → Type 0
FitsLimits p = limit_passed p ≡ None → IsFile (file_with p)

-- the offset of the first name behind the first mark that is neither declared nor a left side
abbrev pub undefined_in : List TokenName → List TokenName → List held.Placed → Option ℕ
undefined_in declared lefts items = first_undefined declared lefts (behind_mark (placed_all items))

abbrev pub later_fault : Option held.Placed → List held.Placed → List TokenName → List TokenName → Option YaccError
later_fault start items declared lefts = fault_behind_start (placed_of_some start) (placed_all items) declared lefts
