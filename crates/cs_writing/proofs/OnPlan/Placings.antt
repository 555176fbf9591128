-- Goals that are placed, one behind the other, and can be rendered.
use Rattle.std.proofs.Common.{◌≡◌, ℕ, List, [], ◌∷◌, ◌++◌, Option, None, Some, arith, refl, sym, ap, ◌∙◌, subst}
use Rattle.std.specs.Prelude.{All, IfSome}
use Rattle.std.proofs.lemmas.List.{append_assoc}
use Rattle.cs_grammar.specs.Grammar.{IsNumberOf}
use Rattle.cs_grammar.specs.Weights.{IsMeasure, Weighed}
use Rattle.cs_goals.specs.declared.goal.Goal.{Goal}
use Rattle.cs_goals.specs.Goal.{IsGoal}
use Rattle.cs_verdicts.specs.Cases.Cases.{PlainCases}
use Rattle.cs_choices.specs.declared.format.Format.{Format}
use Rattle.cs_manifest.specs.Manifest.Manifest.{AreTokensOf}
use Rattle.cs_verdicts.specs.declared.positive.positive.Positive.{Positive}
use Rattle.cs_verdicts.specs.declared.positive.verdict.Verdict.{Verdict}
use Rattle.cs_verdicts.specs.Positive.Positives.{GivesNext, IsNext, ToJudge}
use Rattle.cs_verdicts.specs.Positive.Verdict.{IsVerdictIn}
use Rattle.cs_texts.specs.Work.Renders.{TakesTokens}
use Rattle.cs_yacc.specs.Reading.File.{File, IsFile}
use Rattle.cs_writing.specs.declared.plan.placing.Placed.{Placed}
use Rattle.cs_writing.specs.declared.plan.plan.Means.{Means}
use Rattle.cs_writing.specs.declared.plan.plan.PlanForm.{PlanForm}
use Rattle.cs_writing.specs.declared.plan.plan.PlanForm.TheVariants.{Rules, Suite, Shared}
use Rattle.cs_writing.specs.Plan.Entries.{AreStillLeft, IsSharedIn}
use Rattle.cs_writing.specs.Plan.Placing.{ArePlacedNext, AreTaken, IsPlacedAs, IsPlacedGoal}
use Rattle.cs_writing.specs.Plan.Plans.{CanRender, IsFormOf, means_in}
use Rattle.cs_writing.specs.Plan.Steps.{AllSteps}
use Rattle.cs_writing.proofs.OnPlan.Making.{few_of, named_tokens}
use Rattle.cs_writing.proofs.OnPlan.Steps.{no_step, steps_all, steps_push}

-- ---- goals that are left

pub same_left : (old now new : ToJudge) → AreStillLeft old now → new.goals ≡ now.goals → AreStillLeft old new
same_left old now new left same = (left.0, left.1 ∙ ap (λ (l : List Goal). left.0 ++ l) (sym same))

pub next_left : (old now new : ToJudge) (found : Option Positive) → AreStillLeft old now → GivesNext now found new → AreStillLeft old new
next_left old now new None left gives = same_left old now new left (gives.1 ∙ sym gives.0)
next_left old now new (Some p) left gives =
    (left.0 ++ p.goal ∷ [], left.1 ∙ ap (λ (l : List Goal). left.0 ++ l) gives.goals ∙ sym (append_assoc left.0 (p.goal ∷ []) new.goals))

-- ---- the next goals

-- nothing was placed
pub placed_none : (format : Format) (old : ToJudge) (before : PlainCases) (placed : List Placed) → placed ≡ [] → ArePlacedNext format old before old before placed
placed_none format old before placed none =
    subst (ArePlacedNext format old before old before) (sym none) (record { goals = []; split = refl; are = (refl, refl) })

module _ (format : Format) (old : ToJudge) (before : PlainCases) (now : ToJudge) (mid : PlainCases) (placed : List Placed) (so_far : ArePlacedNext format old before now mid placed) where
  -- a goal more
  pub placed_next : (positive : Positive) (p : Placed) (new : ToJudge) (after : PlainCases) (more : List Placed) → now.tables ≡ old.tables → IsNext now positive new → IsGoal now.tables.grammar positive.goal → IsPlacedAs old.tables.grammar format mid positive after p → more ≡ placed ++ p ∷ [] → ArePlacedNext format old before new after more
  placed_next positive p new after more tables next of_grammar is grown =
      let judged : IsGoal old.tables.grammar positive.goal × IsVerdictIn old.tables positive.goal positive.verdict =
      subst (λ (v : Weighed). IsGoal v.grammar positive.goal × IsVerdictIn v positive.goal positive.verdict) tables (of_grammar, next.verdict) in
      let one : IsPlacedGoal format old.tables mid positive.goal after p = record {
        of_grammar = judged.0;
        is_of = is.goal;
        verdict = subst (IsVerdictIn old.tables positive.goal) (sym is.verdict) judged.1;
        shared = subst (λ (v : Verdict). IsSharedIn format mid positive.goal v after p.shared) (sym is.verdict) is.shared;
        tokens = subst (λ (v : Verdict). AreTokensOf old.tables.grammar v p.tokens.items) (sym is.verdict) is.tokens;
      } in
      record {
        goals = so_far.goals ++ positive.goal ∷ [];
        split = so_far.split ∙ ap (λ (l : List Goal). so_far.goals ++ l) next.goals ∙ sym (append_assoc so_far.goals (positive.goal ∷ []) new.goals);
        are = subst (AllSteps (IsPlacedGoal format old.tables) before (so_far.goals ++ positive.goal ∷ []) after) (sym grown) (steps_push (IsPlacedGoal format old.tables) before mid after so_far.goals positive.goal placed p so_far.are one);
      }

  -- none is left
  none_given : (new : ToJudge) (found : Option Positive) → ((p : Positive) → found ≡ Some p → ⊥) → GivesNext now found new → (now.goals ≡ []) × (new.goals ≡ [])
  none_given new None not_some gives = gives
  none_given new (Some p) not_some gives = absurd (not_some p refl)

  pub placed_all : (new : ToJudge) (found : Option Positive) → ((p : Positive) → found ≡ Some p → ⊥) → GivesNext now found new → ArePlacedNext format old before new mid placed
  placed_all new found not_some gives =
      let none = none_given new found not_some gives in
      record {
        goals = so_far.goals;
        split = so_far.split ∙ ap (λ (l : List Goal). so_far.goals ++ l) (none.0 ∙ sym none.1);
        are = so_far.are;
      }

  pub placed_none_left : (new : ToJudge) (found : Option Positive) → ((p : Positive) → found ≡ Some p → ⊥) → GivesNext now found new → placed ≡ [] → old.goals ≡ []
  placed_none_left new found not_some gives empty =
      let none = no_step (IsPlacedGoal format old.tables) before mid so_far.goals (subst (AllSteps (IsPlacedGoal format old.tables) before so_far.goals mid) empty so_far.are) in
      so_far.split ∙ ap (λ (l : List Goal). l ++ now.goals) none.0 ∙ (none_given new found not_some gives).0

-- ---- their tokens can be rendered

-- what lists are rendered with is of the file
pub can_render : (file : File) (form : PlanForm) → IsFormOf file form → IfSome (means_in form) (λ m. CanRender file m.work.now)
can_render file Rules is = tt
can_render file (Suite means) is = is.texts
can_render file (Shared means closed) is = is.0.texts

module _ (file : File) (is : IsFile file) (of : Weighed) (same : of.grammar ≡ file.grammar) (measure : IsMeasure of.weights) (format : Format) where
  takes_one : (means : Means) → CanRender file means.work.now → (old : PlainCases) (goal : Goal) (new : PlainCases) (p : Placed) → IsPlacedGoal format of old goal new p → TakesTokens means.work.now p.tokens.items
  takes_one means can old goal new p placed = record {
    tokens_of = subst (λ (n : ℕ). All (IsNumberOf n) p.tokens.items) (is.tokens ∙ sym can.all) (named_tokens file is of.grammar p.verdict p.tokens.items same placed.tokens);
    few = omega (arith, few_of of.weights measure of.grammar goal p.verdict p.tokens.items placed.verdict placed.tokens);
  }

  pub takes_placed : (means : Option Means) → IfSome means (λ m. CanRender file m.work.now) → (old new : PlainCases) (goals : List Goal) (placed : List Placed) → AllSteps (IsPlacedGoal format of) old goals new placed → AreTaken means placed
  takes_placed None can old new goals placed are = tt
  takes_placed (Some means) can old new goals placed are =
      steps_all (IsPlacedGoal format of) (λ (p : Placed). TakesTokens means.work.now p.tokens.items) (takes_one means can) old new goals placed are
