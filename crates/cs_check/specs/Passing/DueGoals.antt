-- What the code knows of the goals above, and what is due by that. Working words of the code's contracts.
use Rattle.std.specs.Prelude.{◌≡◌, ◌<◌, ◌≤◌, ◌↔◌, ℕ, nat_lt, ◌==◌, Bool, true, false, List, [], ◌∷◌, ◌++◌, drop, length, Option, None, Some, IsTrue, slice_get}
use Rattle.cs_choices.specs.declared.criteria.Criteria.{Criteria}
use Rattle.cs_grammar.specs.Grammar.{PlainGrammar}
use Rattle.cs_goals.specs.declared.goal.Goal.{Goal}
use Rattle.cs_check.specs.declared.checking.goals.Criterion.{Criterion}
use Rattle.cs_check.specs.declared.checking.goals.Criterion.TheVariants as criteria
use Rattle.cs_check.specs.declared.checking.goals.DueGoals.{DueGoals}
use Rattle.cs_lines.specs.declared.lines.line.GoalWords as held
use Rattle.cs_lines.specs.declared.lines.line.GoalWords.TheVariants as goals
use Rattle.cs_yacc.specs.Reading.File.{File}
use Rattle.cs_lines.specs.Lines.Line.{GoalWords}
use Rattle.cs_lines.specs.Lines.Read.{TellsGoal}
use Rattle.cs_check.specs.Passing.Goals.{criterion, list_of, told, last_goal, words_of, AreFinished, IsDue, MayFollow}

-- the number of a criterion, in their order
abbrev pub number : Criterion → ℕ
number criteria.Rule = 0
number criteria.Cdrc = 1
number criteria.Pair = 2

abbrev pub criteria_of : Criterion → Criteria
criteria_of criteria.Rule = record { rule = true; cdrc = false; pair = false }
criteria_of criteria.Cdrc = record { rule = false; cdrc = true; pair = false }
criteria_of criteria.Pair = record { rule = false; cdrc = false; pair = true }

abbrev pub criterion_of : held.GoalWords → Criterion
criterion_of (goals.Rule r) = criteria.Rule
criterion_of (goals.Context p i q) = criteria.Cdrc
criterion_of (goals.Pair a b) = criteria.Pair

-- the criterion is the last one
abbrev pub is_last : Option Criterion → Criterion → Bool
is_last None c = false
is_last (Some last) c = number last == number c

-- it comes behind that
abbrev pub is_later : Option Criterion → Criterion → Bool
is_later None c = true
is_later (Some last) c = nat_lt (number last) (number c)

-- the code has the criterion of the last goal
abbrev pub TellsLast : Option GoalWords → Option Criterion → Type 0
TellsLast None None = Unit {0}
TellsLast (Some words) (Some c) = number c ≡ criterion words
TellsLast words c = ⊥

-- what is left of the list of the last goal
abbrev pub left_of : PlainGrammar → List GoalWords → Option GoalWords → List Goal
left_of g above None = []
left_of g above (Some last) = drop (told above last) (list_of g last)

-- no more goals are told than its list has
abbrev pub IsWithin : PlainGrammar → List GoalWords → Option GoalWords → Type 0
IsWithin g above None = Unit {0}
IsWithin g above (Some last) = told above last ≤ length (list_of g last)

-- a criterion behind the last one
abbrev pub IsBehind : Option GoalWords → GoalWords → Type 0
IsBehind None words = Unit {0}
IsBehind (Some last) words = criterion last < criterion words

-- what is known of the goals above: their last criterion, and what is left of its list; none of a later one is told
pub record KnowsGoals (g : PlainGrammar) (above : List GoalWords) (d : DueGoals) : Type 0 where
  pub grammar : d.grammar.now ≡ g
  pub last : TellsLast (last_goal above) d.last
  pub left : d.left ≡ left_of g above (last_goal above)
  pub within : IsWithin g above (last_goal above)
  pub later : (words : GoalWords) → IsBehind (last_goal above) words → told above words ≡ 0

abbrev pub TellsFinished : DueGoals → Bool → Type 0
TellsFinished d finished = (g : PlainGrammar) (above : List GoalWords) → KnowsGoals g above d → IsTrue finished ↔ AreFinished g above

-- the next goal of the words' criterion may come behind those, and this is the next one of its list
pub record IsNextOf (g : PlainGrammar) (above : List GoalWords) (words : GoalWords) (goal : Goal) : Type 0 where
  pub follows : MayFollow g above (last_goal above) words
  pub next : slice_get (list_of g words) (told above words) ≡ Some goal

-- the next goal of the criterion is given, and known then
abbrev pub GivesNextOf : DueGoals → Criterion → DueGoals → Goal → Type 0
GivesNextOf old c new goal =
    (g : PlainGrammar) (above : List GoalWords) (words : GoalWords) → KnowsGoals g above old → number c ≡ criterion words
    → IsNextOf g above words goal × KnowsGoals g (above ++ words ∷ []) new

-- none is due
abbrev pub GivesNoneOf : DueGoals → Criterion → Type 0
GivesNoneOf old c =
    (g : PlainGrammar) (above : List GoalWords) (words : GoalWords) → KnowsGoals g above old → number c ≡ criterion words
    → (goal : Goal) → IsNextOf g above words goal → ⊥

-- the answer tells whether the words are those of the goal
abbrev pub TellsWords : File → held.GoalWords → Goal → Bool → Type 0
TellsWords file told goal so = (words : GoalWords) → TellsGoal told words → IsTrue so ↔ (words ≡ words_of file goal)

-- the goal is due, and known then
abbrev pub TakesDue : File → DueGoals → held.GoalWords → DueGoals → Goal → Type 0
TakesDue file old told new goal =
    (above : List GoalWords) (words : GoalWords) → KnowsGoals file.grammar above old → TellsGoal told words
    → IsDue file above words goal × KnowsGoals file.grammar (above ++ words ∷ []) new

-- none is due with these words
abbrev pub HasNoneDue : File → DueGoals → held.GoalWords → Type 0
HasNoneDue file old told =
    (above : List GoalWords) (words : GoalWords) (goal : Goal) → KnowsGoals file.grammar above old → TellsGoal told words
    → IsDue file above words goal → ⊥
