-- The cases that were told. Working words of proofs.
use Rattle.std.specs.Global.{Vec}
use Rattle.std.specs.Prelude.{◌≡◌, ◌↔◌, ◌<◌, ◌≤◌, ◌+◌, ◌++◌, ◌∷◌, [], All, Bool, IfOk, IsTrue, Result, slice_get, ℕ, List, Option, Some, None}
use Rattle.cs_grammar.specs.Grammar.{PlainGrammar}
use Rattle.cs_goals.specs.declared.goal.Goal.{Goal}
use Rattle.cs_grammar.specs.Leftmost.{IsYield}
use Rattle.cs_goals.specs.Meets.{IsMeeting}
use Rattle.cs_lines.specs.Lines.Numbers.{IsRead, greatest}
use Rattle.cs_check.specs.Passing.Entries.{IsNumbered, IsLast}

-- a case: its size and its rule numbers
pub record PlainCase : Type 0 where
  pub size : ℕ
  pub rules : List ℕ

abbrev pub case_of : ℕ → List ℕ → PlainCase
case_of size rules = record { size = size; rules = rules }

-- the place of the number in a list, if it has so many
abbrev pub IsPlaceOf : ℕ → ℕ → Option ℕ → Type 0
IsPlaceOf number many None = (0 < number) × (number ≤ many) → ⊥
IsPlaceOf number many (Some place) = (number ≡ place + 1) × (place < many)

-- a case has the number, and its tree meets the goal
abbrev pub Meets : PlainGrammar → List PlainCase → Goal → ℕ → Type 0
Meets g cases goal number = (case : PlainCase) × IsNumbered cases number case × IsMeeting g goal case.rules

-- the case has this size and meets the goal, and so does the first that is told
pub record Shows (g : PlainGrammar) (cases : List PlainCase) (goal : Goal) (size number first : ℕ) : Type 0 where
  pub case : PlainCase
  pub numbered : IsNumbered cases number case
  pub sized : size ≡ case.size
  pub met : Meets g cases goal number
  pub met_first : Meets g cases goal first

-- cases of a grammar
pub record PlainCases : Type 0 where
  pub grammar : PlainGrammar
  pub list : List PlainCase

abbrev pub cases_of : PlainGrammar → List PlainCase → PlainCases
cases_of g list = record { grammar = g; list = list }

-- with a case more
abbrev pub IsPushed : PlainCases → ℕ → List ℕ → PlainCases → Type 0
IsPushed old size rules new = new ≡ cases_of old.grammar (old.list ++ case_of size rules ∷ [])

-- the case stands at the place, and yields the tokens
abbrev pub IsAt : PlainCases → ℕ → PlainCase → Type 0
IsAt cases place case = slice_get cases.list place ≡ Some case

abbrev pub Yields : PlainCases → PlainCase → Vec ℕ → Type 0
Yields cases case tokens = IsYield cases.grammar case.rules tokens.items

-- these are the rules and the tokens of the last case, if there is one
abbrev pub HoldsLast : PlainGrammar → List PlainCase → List ℕ → List ℕ → Type 0
HoldsLast g cases rules tokens = (case : PlainCase) → IsLast cases case → (rules ≡ case.rules) × IsYield g rules tokens

-- the answer tells whether the case meets the goal
abbrev pub DecidesMeeting : PlainCases → Goal → PlainCase → Bool → Type 0
DecidesMeeting cases goal case met = IsTrue met ↔ IsMeeting cases.grammar goal case.rules

-- and whether the case of this number does
abbrev pub TellsMet : PlainCases → Goal → ℕ → Bool → Type 0
TellsMet cases goal number met = IsTrue met ↔ Meets cases.grammar cases.list goal number

-- and whether what is told of cases is so, where none has the greatest size
abbrev pub TellsShown : {E : Type 0} → PlainCases → Goal → ℕ → ℕ → ℕ → Result Bool E → Type 0
TellsShown cases goal size case first result =
    (s n f : ℕ) → IsRead s size → IsRead n case → IsRead f first → All (λ told. told.size < greatest) cases.list
    → IfOk result (λ so. IsTrue so ↔ Shows cases.grammar cases.list goal s n f)
