-- Which goals are due, by the goal lines above.
use Rattle.std.specs.Prelude.{◌≡◌, ◌<◌, ◌⊎◌, ℕ, Bool, ◌==◌, List, length, Option, None, Some, slice_get, count_by}
use Rattle.std.specs.List.{last_or}
use Rattle.cs_grammar.specs.Grammar.{PlainGrammar}
use Rattle.cs_goals.specs.declared.goal.Goal.{Goal}
use Rattle.cs_goals.specs.declared.goal.Goal.TheVariants.{Rule, Context, Pair}
use Rattle.cs_goals.specs.Goals.{rule_goals, context_goals, pair_goals}
use Rattle.cs_yacc.specs.Reading.File.{File}
use Rattle.cs_lines.specs.Words.Names.{mark_text}
use Rattle.cs_lines.specs.Lines.Line.{GoalWords, OfRule, OfContext, OfPair}

-- the words of a goal
abbrev pub words_of : File → Goal → GoalWords
words_of file (Rule r) = OfRule r
words_of file (Context p i q) = OfContext p i q
words_of file (Pair a b) = OfPair (mark_text file a) (mark_text file b)

-- the number of the criterion that words speak of, in the order of the criteria
abbrev pub criterion : GoalWords → ℕ
criterion (OfRule r) = 0
criterion (OfContext p i q) = 1
criterion (OfPair left right) = 2

abbrev pub is_of : ℕ → GoalWords → Bool
is_of c words = criterion words == c

-- the goals of that criterion
abbrev pub list_of : PlainGrammar → GoalWords → List Goal
list_of g (OfRule r) = rule_goals g
list_of g (OfContext p i q) = context_goals g
list_of g (OfPair left right) = pair_goals g

-- how many goals of the criterion are above
abbrev pub told : List GoalWords → GoalWords → ℕ
told above words = count_by (is_of (criterion words)) above

-- the goal line above says this last, and its list is at its end
abbrev pub IsAtEnd : PlainGrammar → List GoalWords → GoalWords → Type 0
IsAtEnd g above last = told above last ≡ length (list_of g last)

-- a goal of the criterion may come behind that: of the same, or of a later one where the list is at its end
abbrev pub MayFollow : PlainGrammar → List GoalWords → Option GoalWords → GoalWords → Type 0
MayFollow g above None words = Unit {0}
MayFollow g above (Some last) words =
    (criterion words ≡ criterion last) ⊎ ((criterion last < criterion words) × IsAtEnd g above last)

abbrev pub last_goal : List GoalWords → Option GoalWords
last_goal above = last_or None above

-- the words are those of a goal that is due: the next one of its list
pub record IsDue (file : File) (above : List GoalWords) (words : GoalWords) (goal : Goal) : Type 0 where
  pub follows : MayFollow file.grammar above (last_goal above) words
  pub next : slice_get (list_of file.grammar words) (told above words) ≡ Some goal
  pub are_words : words ≡ words_of file goal

-- the list of the last goal is at its end, or there was no goal
abbrev pub AreFinishedBehind : PlainGrammar → List GoalWords → Option GoalWords → Type 0
AreFinishedBehind g above None = Unit {0}
AreFinishedBehind g above (Some last) = IsAtEnd g above last

abbrev pub AreFinished : PlainGrammar → List GoalWords → Type 0
AreFinished g above = AreFinishedBehind g above (last_goal above)
