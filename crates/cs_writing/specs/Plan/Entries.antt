-- What is made of the next goals.
use Rattle.std.specs.Prelude.{◌≡◌, ℕ, List, [], ◌++◌, Option, None, IsSomeAnd}
use Rattle.std.specs.Global.{Vec}
use Rattle.cs_grammar.specs.Weights.{Weighed}
use Rattle.cs_goals.specs.declared.goal.Goal.{Goal}
use Rattle.cs_goals.specs.Goal.{IsGoal}
use Rattle.cs_verdicts.specs.Cases.Cases.{PlainCases}
use Rattle.cs_manifest.specs.declared.manifest.verdict.SharedVerdict.{SharedVerdict}
use Rattle.cs_choices.specs.declared.format.Format.{Format}
use Rattle.cs_choices.specs.declared.format.Format.TheVariants.{One, Two}
use Rattle.cs_manifest.specs.Manifest.Manifest.{AreTokensOf, IsRenderedIf, IsSharedVerdict, Texts}
use Rattle.cs_verdicts.specs.declared.positive.positive.Positive.{Positive}
use Rattle.cs_verdicts.specs.declared.positive.verdict.Verdict.{Verdict}
use Rattle.cs_verdicts.specs.Positive.Positives.{ToJudge}
use Rattle.cs_verdicts.specs.Positive.Verdict.{IsVerdictIn}
use Rattle.cs_writing.specs.declared.plan.plan.Plan.{Plan}
use Rattle.cs_writing.specs.Plan.Made.{MadeEntry, is_asked}
use Rattle.cs_writing.specs.Plan.Plans.{format_by, lexemes_in, texts_in}
use Rattle.cs_writing.specs.Plan.Steps.{AllSteps}

-- the goal's verdict in the second format, from the cases before it to those behind it; the first format has neither
abbrev pub IsSharedIn : Format → PlainCases → Goal → Verdict → PlainCases → Option SharedVerdict → Type 0
IsSharedIn One old goal verdict new shared = (shared ≡ None) × (new ≡ old)
IsSharedIn Two old goal verdict new shared = IsSomeAnd shared (IsSharedVerdict old goal verdict new)

-- this is made of a goal of the grammar, from the cases before it to those behind it
pub record IsMade (format : Format) (texts : Option Texts) (lexemes : Option (List (Option (List ℕ)))) (of : Weighed) (old : PlainCases) (goal : Goal) (new : PlainCases) (m : MadeEntry) : Type 0 where
  pub of_grammar : IsGoal of.grammar goal
  pub is_of : m.goal ≡ goal
  pub verdict : IsVerdictIn of goal m.verdict
  pub shared : IsSharedIn format old goal m.verdict new m.shared
  pub tokens : AreTokensOf of.grammar m.verdict m.tokens
  pub text : IsRenderedIf (is_asked m.verdict m.shared) texts lexemes m.tokens m.rendered

-- by a plan
abbrev pub IsMadeIn : Plan → Weighed → PlainCases → Goal → PlainCases → MadeEntry → Type 0
IsMadeIn plan of old goal new m = IsMade (format_by plan.form) (texts_in plan) (lexemes_in plan) of old goal new m

-- of each of these goals, in order
abbrev pub AreMade : Plan → Weighed → PlainCases → List Goal → PlainCases → List MadeEntry → Type 0
AreMade plan of old goals new list = AllSteps (IsMadeIn plan of) old goals new list

-- This is made of the first goals that were left, and those behind them are left; there is something, unless no goal was left.
pub record AreNext (plan : Plan) (old : ToJudge) (before : PlainCases) (list : List MadeEntry) (new : ToJudge) (after : PlainCases) : Type 0 where
  pub goals : List Goal
  pub split : old.goals ≡ goals ++ new.goals
  pub each : AreMade plan old.tables before goals after list
  pub some : list ≡ [] → old.goals ≡ []

-- this comes, with what is left behind it
abbrev pub ComesNext : Plan → ToJudge → PlainCases → ToJudge → PlainCases → Vec MadeEntry → Type 0
ComesNext plan old before new after made = AreNext plan old before made.items new after

-- goals behind the first ones are left, whatever came of those
abbrev pub AreStillLeft : ToJudge → ToJudge → Type 0
AreStillLeft old new = (gone : List Goal) × (old.goals ≡ gone ++ new.goals)

-- the verdict of a goal with its verdict, in a format and in the second
abbrev pub IsSharedOf : Format → Positive → PlainCases → PlainCases → Option SharedVerdict → Type 0
IsSharedOf format p old new shared = IsSharedIn format old p.goal p.verdict new shared

abbrev pub IsSharedVerdictOf : Positive → PlainCases → PlainCases → SharedVerdict → Type 0
IsSharedVerdictOf p old new verdict = IsSharedVerdict old p.goal p.verdict new verdict
