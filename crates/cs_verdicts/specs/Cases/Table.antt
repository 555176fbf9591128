-- What is known of the goals that cases meet: each with the number of the first case that does.
use Rattle.std.specs.Prelude.{◌≡◌, ℕ, ◌⊎◌, ◌↔◌, Bool, List, [], ◌∷◌, ◌++◌, Option, Some, None, map, slice_get, Contains, IsTrue, if◌then◌else◌}
use Rattle.cs_grammar.specs.Grammar.{PlainGrammar}
use Rattle.cs_goals.specs.declared.goal.Goal.{Goal}
use Rattle.cs_goals.specs.declared.goal.Goal.TheVariants.{Rule, Context, Pair}
use Rattle.cs_goals.specs.declared.goal.Occurrence.{Occurrence}
use Rattle.cs_goals.specs.Goal.{context_goal}
use Rattle.cs_goals.specs.Meets.{IsMeeting}
use Rattle.cs_verdicts.specs.declared.cases.code.Code.{Code}
use Rattle.cs_verdicts.specs.Cases.Cases.{PlainCases, IsLowest, IsNew, IsCaseOf, with_case}

abbrev pub codes_in : List Code → List (List ℕ)
codes_in codes = map (λ (code : Code). code.rules.items) codes

-- a goal has a number, and has none
abbrev pub HasNumber : List (Goal × ℕ) → Goal → Type 0
HasNumber firsts goal = (n : ℕ) × Contains firsts (goal, n)

abbrev pub HasNone : List (Goal × ℕ) → Goal → Type 0
HasNone firsts goal = (n : ℕ) → Contains firsts (goal, n) → ⊥

-- what a use of a rule meets: the rule, and the use itself
abbrev pub goals_of : Occurrence → List Goal
goals_of o = Rule o.inner ∷ context_goal o ∷ []

-- where the goal is a context, the rule that it shows has a number
abbrev pub IsRuled : List (Goal × ℕ) → Goal → Type 0
IsRuled firsts (Rule r) = Unit {0}
IsRuled firsts (Context p i q) = HasNumber firsts (Rule q)
IsRuled firsts (Pair a b) = Unit {0}

abbrev pub AreRuled : List (Goal × ℕ) → Type 0
AreRuled firsts = (goal : Goal) → HasNumber firsts goal → IsRuled firsts goal

-- the numbers are those of the first cases, and each goal that a case meets has one
pub record AreFirstCases (g : PlainGrammar) (codes : List (List ℕ)) (firsts : List (Goal × ℕ)) : Type 0 where
  pub lowest : (goal : Goal) → (n : ℕ) → Contains firsts (goal, n) → IsLowest (IsMeeting g goal) codes n
  pub every : (k : ℕ) → (code : List ℕ) → (goal : Goal) → slice_get codes k ≡ Some code → IsMeeting g goal code → HasNumber firsts goal

-- the number of a goal
abbrev pub IsFound : List (Goal × ℕ) → Goal → Option ℕ → Type 0
IsFound firsts goal None = HasNone firsts goal
IsFound firsts goal (Some n) = Contains firsts (goal, n)

-- a goal gets a number where it has none
abbrev pub IsAdded : List (Goal × ℕ) → Goal → ℕ → List (Goal × ℕ) → Type 0
IsAdded old goal n new = (HasNumber old goal × (new ≡ old)) ⊎ (HasNone old goal × (new ≡ old ++ (goal, n) ∷ []))

-- goals came behind those that were there
abbrev pub IsGrown : List (Goal × ℕ) → List (Goal × ℕ) → Type 0
IsGrown old new = (more : List (Goal × ℕ)) × (new ≡ old ++ more)

-- a goal with a number: it was there, or had none, is one of these and got this number
abbrev pub IsOldOrNew : List (Goal × ℕ) → List Goal → ℕ → Goal → ℕ → Type 0
IsOldOrNew old goals n goal m = Contains old (goal, m) ⊎ ((m ≡ n) × Contains goals goal × HasNone old goal)

-- each of these goals gets a number where it has none
pub record AreAllAdded (old : List (Goal × ℕ)) (goals : List Goal) (n : ℕ) (new : List (Goal × ℕ)) : Type 0 where
  pub grown : IsGrown old new
  pub only : (goal : Goal) → (m : ℕ) → Contains new (goal, m) → IsOldOrNew old goals n goal m
  pub every : (goal : Goal) → Contains goals goal → HasNumber new goal

-- the number of a code's own case, which is new or not, and the cases with it
pub record IsOwn (old : PlainCases) (code : List ℕ) (new : PlainCases) (own : ℕ × Bool) : Type 0 where
  pub fresh : IsTrue own.1 ↔ IsNew old code
  pub cases : new ≡ (if own.1 then with_case old code else old)
  pub number : IsCaseOf new code own.0
