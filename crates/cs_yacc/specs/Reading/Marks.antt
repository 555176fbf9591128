-- Marks of spellings.
use Rattle.std.specs.Prelude.{◌≡◌, ◌≢◌, ℕ, ◌<◌, Bool, ◌&&◌, not, List, ◌++◌, length, map, Option}
use Rattle.std.specs.Global.{Vec}
use Rattle.std.specs.List.{All, AllPairs}
use Rattle.cs_yacc.specs.declared.reading.name.TokenName.{TokenName}
use Rattle.cs_yacc.specs.declared.reading.spelled.SpelledRule as held
use Rattle.cs_yacc.specs.Reading.Meaning.{has_spelling, distinct, only_if, used, error_spelling}
use Rattle.cs_yacc.specs.Reading.Finding.{used_among}
use Rattle.cs_yacc.specs.Reading.Places.{names_at, place_in, ArePlaces}
use Rattle.cs_yacc.specs.Reading.RuleView.{rules_in, AddsRule}
use Rattle.cs_yacc.specs.Reading.SpellingView.{items_in}
use Rattle.cs_yacc.specs.declared.reading.spelling.Spelling as code
use Rattle.cs_yacc.specs.declared.items.item.Item as items
use Rattle.cs_yacc.specs.declared.items.item.Placed as items_held

-- each is spelled in another way
abbrev pub AreApart : List TokenName → Type 0
AreApart words = AllPairs (λ v w. v ≢ w) words

-- the places of the rules' bodies are places of this list
abbrev pub AreWithin : List TokenName → List held.SpelledRule → Type 0
AreWithin words rules = All (λ r. All (λ k. k < length words) r.right.now) rules

-- if the places of those rules are within, those of these are
abbrev pub KeepsWithin : List TokenName → List held.SpelledRule → List held.SpelledRule → Type 0
KeepsWithin words was now = AreWithin words was → AreWithin words now

-- to the rules the one is added that an item opens behind this left side, if it is kept, by any list of spellings among which
-- these are the places of the items behind it and this one that of `error`
abbrev pub Adds : ℕ → Vec held.SpelledRule → Vec held.SpelledRule → Option code.Spelling → items.Item → List items_held.Placed → List ℕ → Type 0
Adds error was now left item rest places = (words : List TokenName) → AreApart words → error ≡ place_in words error_spelling → ArePlaces words (items_in rest) places → AddsRule words was now left item rest × KeepsWithin words was.items now.items

-- the marks tell which of the spellings are among these
abbrev pub AreMarksOf : List Bool → List TokenName → List TokenName → Type 0
AreMarksOf marks words among = marks ≡ map (has_spelling among) words

-- which stand in the right sides of the rules
abbrev pub AreMarksOfUsed : List Bool → List TokenName → List held.SpelledRule → Type 0
AreMarksOfUsed marks words rules = AreMarksOf marks words (used (rules_in words rules))

-- where the marks told which spellings are among some, they now tell which are among these and those at the places
abbrev pub MarksAt : List Bool → List Bool → List ℕ → Type 0
MarksAt was now places = (words among : List TokenName) → AreApart words → AreMarksOf was words among → AreMarksOf now words (among ++ names_at words places)

-- the spelling of a token in use, where it is used as told
abbrev pub used_here : Bool → List TokenName → TokenName → List TokenName
used_here used lefts w = only_if (used && not (has_spelling lefts w)) w

-- the tokens in use among the spellings, where the marks tell which are used
abbrev pub AreTokens : List TokenName → List Bool → List TokenName → List TokenName → Type 0
AreTokens tokens marks words lefts = (used : List TokenName) → AreMarksOf marks words used → tokens ≡ distinct (used_among used lefts words)
