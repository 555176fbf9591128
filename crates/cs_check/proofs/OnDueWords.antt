-- The words of a goal that is due: which goals are left, and whose words are whose.
use Rattle.std.proofs.Common.{◌≡◌, ℕ, Bool, true, false, List, refl, sym, ap, ◌∙◌, Some}
use Rattle.std.specs.Prelude.{slice_get}
use Rattle.cs_goals.specs.declared.goal.Goal.{Goal}
use Rattle.cs_yacc.specs.Reading.File.{File}
use Rattle.cs_check.specs.declared.checking.goals.DueGoals.{DueGoals}
use Rattle.cs_lines.specs.declared.lines.line.GoalWords as held
use Rattle.cs_lines.specs.declared.lines.line.GoalWords.TheVariants as told_goals
use Rattle.cs_lines.specs.Lines.Line.{GoalWords, OfRule, OfContext, OfPair}
use Rattle.cs_lines.specs.Lines.Read.{TellsGoal}
use Rattle.cs_check.specs.Passing.Goals.{criterion, list_of, told, words_of}
use Rattle.cs_check.specs.Passing.DueGoals.{number, criterion_of, GivesNextOf, GivesNoneOf, HasNoneDue, TakesDue, TellsWords}

-- the criterion of the words that are told
pub criterion_told : (t : held.GoalWords) (w : GoalWords) → TellsGoal t w → number (criterion_of t) ≡ criterion w
criterion_told (told_goals.Rule r) (OfRule s) h = refl
criterion_told (told_goals.Rule r) (OfContext p i q) h = absurd h
criterion_told (told_goals.Rule r) (OfPair a b) h = absurd h
criterion_told (told_goals.Context p i q) (OfRule s) h = absurd h
criterion_told (told_goals.Context p i q) (OfContext u j v) h = refl
criterion_told (told_goals.Context p i q) (OfPair a b) h = absurd h
criterion_told (told_goals.Pair c d) (OfRule s) h = absurd h
criterion_told (told_goals.Pair c d) (OfContext p i q) h = absurd h
criterion_told (told_goals.Pair c d) (OfPair a b) h = refl

-- ---- the goal that is taken

pub taken : (file : File) (old : DueGoals) (t : held.GoalWords) (new : DueGoals) (goal : Goal) (so : Bool) → GivesNextOf old (criterion_of t) new goal → TellsWords file t goal so → so ≡ true → TakesDue file old t new goal
taken file old t new goal so given words yes' = λ above w knows tells.
    let next = given file.grammar above w knows (criterion_told t w tells) in
    (record { follows = next.0.follows; next = next.0.next; are_words = (words w tells).0 yes' }, next.1)

-- the goal that comes next is the only one that is due
one_next : (l : List Goal) (k : ℕ) (x y : Goal) → slice_get l k ≡ Some x → slice_get l k ≡ Some y → x ≡ y
one_next l k x y first second = let e : Some x ≡ Some y = sym first ∙ second in cc

pub other_words : (file : File) (old : DueGoals) (t : held.GoalWords) (new : DueGoals) (goal : Goal) (so : Bool) → GivesNextOf old (criterion_of t) new goal → TellsWords file t goal so → so ≡ false → HasNoneDue file old t
other_words file old t new goal so given words other = λ above w due knows tells is.
    let next = given file.grammar above w knows (criterion_told t w tells) in
    let same = one_next (list_of file.grammar w) (told above w) due goal is.next next.0.next in
    let so_true = (words w tells).1 (is.are_words ∙ ap (words_of file) same) in
    absurd (let e = sym other ∙ so_true in cc)

pub none_left : (file : File) (old : DueGoals) (t : held.GoalWords) → GivesNoneOf old (criterion_of t) → HasNoneDue file old t
none_left file old t none = λ above w due knows tells is.
    none file.grammar above w knows (criterion_told t w tells) due (record { follows = is.follows; next = is.next })
