-- Goals that are placed among cases, and what came of rendering their tokens. Working words of proofs.
use Rattle.std.specs.Prelude.{◌≡◌, ◌≤◌, ℕ, Bool, true, false, List, [], ◌∷◌, ◌++◌, All, Option, None, Some, IfSome, IsSomeAnd, length}
use Rattle.std.specs.Global.{Vec}
use Rattle.std.specs.List.{AllZip}
use Rattle.cs_grammar.specs.Grammar.{PlainGrammar}
use Rattle.cs_grammar.specs.Tree.{IsDerivationOf}
use Rattle.cs_grammar.specs.Weights.{Weighed}
use Rattle.cs_goals.specs.declared.goal.Goal.{Goal}
use Rattle.cs_goals.specs.Goal.{IsGoal}
use Rattle.cs_goals.specs.Meets.{IsMeeting}
use Rattle.cs_verdicts.specs.Cases.Cases.{PlainCases}
use Rattle.cs_choices.specs.declared.format.Format.{Format}
use Rattle.cs_manifest.specs.Manifest.Manifest.{AreTokensOf}
use Rattle.cs_verdicts.specs.declared.positive.positive.Positive.{Positive}
use Rattle.cs_verdicts.specs.declared.positive.verdict.Verdict.{Verdict}
use Rattle.cs_verdicts.specs.declared.positive.verdict.Verdict.TheVariants.{Feasible, Infeasible, Large}
use Rattle.cs_verdicts.specs.Positive.Positives.{ToJudge}
use Rattle.cs_verdicts.specs.Positive.Verdict.{IsVerdictIn}
use Rattle.cs_texts.specs.declared.rendering.rendered.Rendered.{Rendered}
use Rattle.cs_texts.specs.Rendering.Rendering.{Text, rendering}
use Rattle.cs_texts.specs.Splice.Apart.{ScanBack}
use Rattle.cs_texts.specs.declared.rendering.render_work.RenderWork.{RenderWork}
use Rattle.cs_texts.specs.Rendering.ByWork.{IsRenderedBy}
use Rattle.cs_texts.specs.Work.Renders.{TakesTokens}
use Rattle.cs_writing.specs.declared.plan.placing.Placed.{Placed}
use Rattle.cs_writing.specs.declared.plan.plan.Means.{Means}
use Rattle.cs_writing.specs.declared.plan.texts.TextWork.{TextWork}
use Rattle.cs_writing.specs.Plan.Entries.{IsSharedIn}
use Rattle.cs_writing.specs.Plan.Made.{is_asked}
use Rattle.cs_writing.specs.Plan.Steps.{AllSteps}

-- a feasible goal is met by its derivation
abbrev pub IsMetBy : PlainGrammar → Goal → Verdict → Type 0
IsMetBy g goal (Feasible size derivation) = IsMeeting g goal derivation
IsMetBy g goal Infeasible = Unit {0}
IsMetBy g goal Large = Unit {0}

-- a feasible goal's derivation is one of the grammar
abbrev pub HasDerivation : PlainGrammar → Verdict → Type 0
HasDerivation g (Feasible size derivation) = IsDerivationOf g derivation
HasDerivation g Infeasible = Unit {0}
HasDerivation g Large = Unit {0}

-- the goal was placed so, from the cases before it to those behind it
pub record IsPlacedAs (g : PlainGrammar) (format : Format) (old : PlainCases) (positive : Positive) (new : PlainCases) (p : Placed) : Type 0 where
  pub goal : p.goal ≡ positive.goal
  pub verdict : p.verdict ≡ positive.verdict
  pub shared : IsSharedIn format old positive.goal positive.verdict new p.shared
  pub tokens : AreTokensOf g positive.verdict p.tokens.items

-- a goal of the grammar with its verdict was placed so
pub record IsPlacedGoal (format : Format) (of : Weighed) (old : PlainCases) (goal : Goal) (new : PlainCases) (p : Placed) : Type 0 where
  pub of_grammar : IsGoal of.grammar goal
  pub is_of : p.goal ≡ goal
  pub verdict : IsVerdictIn of goal p.verdict
  pub shared : IsSharedIn format old goal p.verdict new p.shared
  pub tokens : AreTokensOf of.grammar p.verdict p.tokens.items

-- these are the first goals that were left, placed so, and those behind them are left
pub record ArePlacedNext (format : Format) (old : ToJudge) (before : PlainCases) (new : ToJudge) (after : PlainCases) (placed : List Placed) : Type 0 where
  pub goals : List Goal
  pub split : old.goals ≡ goals ++ new.goals
  pub are : AllSteps (IsPlacedGoal format old.tables) before goals after placed

abbrev pub PlacesNext : Format → ToJudge → PlainCases → ToJudge → PlainCases → Vec Placed → Type 0
PlacesNext format old before new after placed = ArePlacedNext format old before new after placed.items

-- ---- what came of the tokens

-- where lists are rendered, these can be
abbrev pub AreTaken : Option Means → List Placed → Type 0
AreTaken means placed = IfSome means (λ m. All (λ p. TakesTokens m.work.now p.tokens.items) placed)

-- so many tokens have entries among the lexemes
abbrev pub HaveSoMany : Option Means → ℕ → Type 0
HaveSoMany means tokens = IfSome means (λ m. tokens ≤ length m.work.now.lexemes.now)

-- the list can be rendered, and texts of tokens that stand apart scan back
pub record CanTake (texts : TextWork) (tokens : List ℕ) : Type 0 where
  pub takes : TakesTokens texts.work.now tokens
  pub scan : ScanBack texts.work.now texts.apart.now

-- the rendering of the tokens is this text
abbrev pub IsTextBy : RenderWork → List ℕ → Vec ℕ → Type 0
IsTextBy work tokens text = IsRenderedBy work tokens (Text text.items)

-- this came of the tokens, where their rendering is asked for
abbrev pub IsRenderedIf : Bool → RenderWork → List ℕ → Option Rendered → Type 0
IsRenderedIf true work tokens rendered = IsSomeAnd rendered (λ r. IsRenderedBy work tokens (rendering r))
IsRenderedIf false work tokens rendered = rendered ≡ None

-- this came of each goal's tokens; without means nothing
abbrev pub AreRendered : Option Means → List Placed → List (Option Rendered) → Type 0
AreRendered None placed rendered = rendered ≡ []
AreRendered (Some means) placed rendered =
    AllZip (λ p r. IsRenderedIf (is_asked p.verdict p.shared) means.work.now p.tokens.items r) placed rendered

-- what comes first, and what is left then
abbrev pub first_in : List (Option Rendered) → Option Rendered
first_in [] = None
first_in (first ∷ rest) = first

abbrev pub rest_of : List (Option Rendered) → List (Option Rendered)
rest_of [] = []
rest_of (first ∷ rest) = rest
