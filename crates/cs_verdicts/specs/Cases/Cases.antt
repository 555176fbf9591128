-- Cases: derivations of a grammar, each once, in the order in which they came; a goal names the case of its own derivation and the
-- lowest case whose tree meets it.
use Rattle.std.specs.Prelude.{◌≡◌, ℕ, ◌-◌, ◌<◌, ◌↔◌, List, [], ◌∷◌, ◌++◌, Some, slice_get, IsTrue, Contains, if◌then◌else◌}
use Rattle.cs_grammar.specs.Grammar.{PlainGrammar}
use Rattle.cs_goals.specs.declared.goal.Goal.{Goal}
use Rattle.cs_goals.specs.Meets.{IsMeeting}
use Rattle.cs_verdicts.specs.declared.cases.cases.Named.{Named}

-- what contracts see of cases: their grammar, and the code of each, in order
pub record PlainCases : Type 0 where
  pub grammar : PlainGrammar
  pub codes : List (List ℕ)

abbrev pub no_cases : PlainGrammar → PlainCases
no_cases g = record { grammar = g; codes = [] }

-- one more case, which stands last
abbrev pub with_case : PlainCases → List ℕ → PlainCases
with_case cases code = record { grammar = cases.grammar; codes = cases.codes ++ code ∷ [] }

-- no case has this code
abbrev pub IsNew : PlainCases → List ℕ → Type 0
IsNew cases code = Contains cases.codes code → ⊥

-- n is the lowest number, counted from 1, of a code in the list that is of the kind
pub record IsLowest (IsOne : List ℕ → Type 0) (codes : List (List ℕ)) (n : ℕ) : Type 0 where
  pub code : List ℕ
  pub above_zero : 0 < n
  pub at : slice_get codes (n - 1) ≡ Some code
  pub is_one : IsOne code
  pub lowest : (k : ℕ) → (other : List ℕ) → k < n - 1 → slice_get codes k ≡ Some other → IsOne other → ⊥

-- the number of the case that has this code
abbrev pub IsCaseOf : PlainCases → List ℕ → ℕ → Type 0
IsCaseOf cases code n = IsLowest (λ other. other ≡ code) cases.codes n

-- the lowest number of a case whose tree meets the goal
abbrev pub IsFirstMet : PlainCases → Goal → ℕ → Type 0
IsFirstMet cases goal n = IsLowest (IsMeeting cases.grammar goal) cases.codes n

-- the tree of some case meets the goal
abbrev pub HasMeeting : PlainCases → Goal → Type 0
HasMeeting cases goal = (k : ℕ) × (code : List ℕ) × (slice_get cases.codes k ≡ Some code) × IsMeeting cases.grammar goal code

-- what is told of a goal and a code that are placed, and what the cases are then
pub record IsPlaced (old : PlainCases) (goal : Goal) (code : List ℕ) (new : PlainCases) (named : Named) : Type 0 where
  pub fresh : IsTrue named.fresh ↔ IsNew old code
  pub cases : new ≡ (if named.fresh then with_case old code else old)
  pub own : IsCaseOf new code named.case
  pub first : IsFirstMet new goal named.first
