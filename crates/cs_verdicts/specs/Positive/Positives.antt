-- The goals of a grammar with their verdicts, in order.
use Rattle.std.specs.Prelude.{◌≡◌, List, [], ◌∷◌, Option, IfSome, MatchOption, All}
use Rattle.cs_grammar.specs.Grammar.{PlainGrammar}
use Rattle.cs_grammar.specs.Weights.{Weighed}
use Rattle.cs_goals.specs.declared.goal.Goal.{Goal}
use Rattle.cs_choices.specs.declared.criteria.Criteria.{Criteria}
use Rattle.cs_goals.specs.Goal.{IsGoal}
use Rattle.cs_goals.specs.Goals.{goals}
use Rattle.cs_verdicts.specs.declared.positive.positive.Positive.{Positive}
use Rattle.cs_verdicts.specs.Positive.Verdict.{IsVerdictIn}

-- goals that are still to be judged, by the tables of a grammar
pub record ToJudge : Type 0 where
  pub tables : Weighed
  pub goals : List Goal

-- the goals of the chosen criteria, none of which was judged
abbrev pub positives_of : Weighed → Criteria → ToJudge
positives_of v c = record { tables = v; goals = goals v.grammar c }

-- each is a goal of the grammar
abbrev pub AreOfGrammar : PlainGrammar → List Goal → Type 0
AreOfGrammar g left = All (IsGoal g) left

-- this goal was the first and has this verdict, and those behind it are left
pub record IsNext (old : ToJudge) (p : Positive) (new : ToJudge) : Type 0 where
  pub goals : old.goals ≡ p.goal ∷ new.goals
  pub verdict : IsVerdictIn old.tables p.goal p.verdict

-- what is given next: the first goal with its verdict, or none where no goal is left
abbrev pub GivesNext : ToJudge → Option Positive → ToJudge → Type 0
GivesNext old found new = MatchOption found ((old.goals ≡ []) × (new.goals ≡ [])) (λ p. IsNext old p new)

-- what is given is one of the grammar's goals
abbrev pub GivesGoalOf : PlainGrammar → Option Positive → Type 0
GivesGoalOf g found = IfSome found (λ p. IsGoal g p.goal)

-- the positives of goals: each goal with its verdict, in order
abbrev pub ArePositives : Weighed → List Goal → List Positive → Type 0
ArePositives v [] ps = ps ≡ []
ArePositives v (goal ∷ left) ps =
    (p : Positive) × (rest : List Positive) × (ps ≡ p ∷ rest) × (p.goal ≡ goal) × IsVerdictIn v goal p.verdict × ArePositives v left rest

-- The laws of the list of positives.

-- what is given next stands in front of the positives of the goals that are left
abbrev pub ComesFirst : ToJudge → Type 0
ComesFirst old = (p : Positive) (new : ToJudge) → IsNext old p new
    → (rest : List Positive) → ArePositives old.tables new.goals rest → ArePositives old.tables old.goals (p ∷ rest)
