-- Goals that were placed, joined with what came of rendering their tokens.
use Rattle.std.proofs.Common.{◌≡◌, ℕ, Bool, true, false, List, [], ◌∷◌, ◌++◌, Option, None, Some, length, arith, append-nil, refl, sym, ap, ◌∙◌, subst}
use Rattle.std.specs.Prelude.{IsSomeAnd, map, option_map}
use Rattle.std.proofs.lemmas.List.{append_assoc}
use Rattle.cs_grammar.specs.Weights.{Weighed}
use Rattle.cs_goals.specs.declared.goal.Goal.{Goal}
use Rattle.cs_verdicts.specs.Cases.Cases.{PlainCases}
use Rattle.cs_manifest.specs.Manifest.ByWork.{texts_of}
use Rattle.cs_manifest.specs.declared.manifest.verdict.SharedVerdict.{SharedVerdict}
use Rattle.cs_manifest.specs.Manifest.Manifest.{IsRenderedIf as IsTextIf, IsSharedVerdict, is_new}
use Rattle.cs_verdicts.specs.declared.positive.verdict.Verdict.{Verdict}
use Rattle.cs_verdicts.specs.declared.positive.verdict.Verdict.TheVariants.{Feasible, Infeasible, Large}
use Rattle.cs_verdicts.specs.Positive.Positives.{ToJudge}
use Rattle.cs_texts.specs.declared.rendering.rendered.Rendered.{Rendered}
use Rattle.cs_texts.specs.Rendering.Rendering.{rendering}
use Rattle.cs_texts.specs.declared.rendering.render_work.RenderWork.{RenderWork}
use Rattle.cs_writing.specs.declared.plan.placing.Placed.{Placed}
use Rattle.cs_writing.specs.declared.plan.plan.Means.{Means}
use Rattle.cs_writing.specs.declared.plan.plan.Plan.{Plan}
use Rattle.cs_writing.specs.declared.plan.plan.PlanForm.{PlanForm}
use Rattle.cs_writing.specs.declared.plan.plan.PlanForm.TheVariants.{Rules, Suite, Shared}
use Rattle.cs_writing.specs.Plan.Entries.{AreMade, AreNext, IsMadeIn, IsSharedIn}
use Rattle.cs_writing.specs.Plan.Made.{AreOfOneKind, HasItsCase, IsThereIf, MadeEntry, is_asked, made_of}
use Rattle.cs_writing.specs.Plan.Placing.{ArePlacedNext, AreRendered, IsPlacedGoal, IsRenderedIf, first_in, rest_of}
use Rattle.cs_writing.specs.Plan.Plans.{format_by, means_in}
use Rattle.cs_writing.specs.Plan.Steps.{AllSteps}
use Rattle.cs_writing.proofs.OnPlan.Steps.{first_step, no_step, steps_length, steps_push}

-- ---- what came of a goal's tokens

-- this came of them; without means nothing
abbrev IsAnswer : Option Means → Placed → Option Rendered → Type 0
IsAnswer None p answer = answer ≡ None
IsAnswer (Some means) p answer = IsRenderedIf (is_asked p.verdict p.shared) means.work.now p.tokens.items answer

-- what comes first is of the first goal
first_answer : (means : Option Means) (p : Placed) (left : List Placed) (rendered : List (Option Rendered)) → AreRendered means (p ∷ left) rendered → IsAnswer means p (first_in rendered) × AreRendered means left (rest_of rendered)
first_answer None p left rendered are = (ap first_in are, ap rest_of are)
first_answer (Some means) p left [] are = absurd are
first_answer (Some means) p left (answer ∷ rest) are = are

text_by : (work : RenderWork) (so : Bool) (tokens : List ℕ) (answer : Option Rendered) → IsRenderedIf so work tokens answer → IsTextIf so (Some (texts_of work)) (Some work.lexemes.now) tokens (option_map rendering answer)
text_by work true tokens (Some answer) is = is
text_by work true tokens None is = absurd is
text_by work false tokens answer is = ap (λ (a : Option Rendered). option_map rendering a) is

no_text : (so : Bool) (tokens : List ℕ) (answer : Option Rendered) → answer ≡ None → IsTextIf so None None tokens (option_map rendering answer)
no_text true tokens answer is = ap (λ (a : Option Rendered). option_map rendering a) is
no_text false tokens answer is = ap (λ (a : Option Rendered). option_map rendering a) is

-- it is the text that the manifest asks for
text_in : (means : Option Means) (p : Placed) (answer : Option Rendered) → IsAnswer means p answer
    → IsTextIf (is_asked p.verdict p.shared) (option_map (λ m. texts_of m.work.now) means) (option_map (λ m. m.work.now.lexemes.now) means) p.tokens.items (option_map rendering answer)
text_in None p answer is = no_text (is_asked p.verdict p.shared) p.tokens.items answer is
text_in (Some means) p answer is = text_by means.work.now (is_asked p.verdict p.shared) p.tokens.items answer is

-- ---- the case of a goal

-- the verdicts of both formats are of one kind
one_kind : (old new : PlainCases) (goal : Goal) (verdict : Verdict) (s : SharedVerdict) → IsSharedVerdict old goal verdict new s → AreOfOneKind verdict s
one_kind old new goal (Feasible n derivation) s is = subst (AreOfOneKind (Feasible n derivation)) (sym is.1) tt
one_kind old new goal Infeasible s is = subst (AreOfOneKind Infeasible) (sym is.0) tt
one_kind old new goal Large s is = subst (AreOfOneKind Large) (sym is.0) tt

there_if : (work : RenderWork) (so : Bool) (tokens : List ℕ) (answer : Option Rendered) → IsRenderedIf so work tokens answer → IsThereIf so answer
there_if work true tokens (Some answer) is = refl
there_if work true tokens None is = absurd is
there_if work false tokens answer is = is

shared_case : (work : RenderWork) (old new : PlainCases) (goal : Goal) (verdict : Verdict) (shared : Option SharedVerdict) (tokens : List ℕ) (answer : Option Rendered) → IsSomeAnd shared (IsSharedVerdict old goal verdict new) → IsRenderedIf (is_asked verdict shared) work tokens answer → HasItsCase verdict shared answer
shared_case work old new goal verdict None tokens answer is rendered = absurd is
shared_case work old new goal verdict (Some s) tokens answer is rendered = (one_kind old new goal verdict s is, there_if work (is_new s) tokens answer rendered)

case_in : (form : PlanForm) (old new : PlainCases) (goal : Goal) (p : Placed) (answer : Option Rendered) → IsSharedIn (format_by form) old goal p.verdict new p.shared → IsAnswer (means_in form) p answer → HasItsCase p.verdict p.shared answer
case_in Rules old new goal p answer shared is = subst (λ (s : Option SharedVerdict). HasItsCase p.verdict s answer) (sym shared.0) tt
case_in (Suite means) old new goal p answer shared is = subst (λ (s : Option SharedVerdict). HasItsCase p.verdict s answer) (sym shared.0) tt
case_in (Shared means closed) old new goal p answer shared is = shared_case means.work.now old new goal p.verdict p.shared p.tokens.items answer shared is

-- ---- goals one by one

-- a list of no length
pub empty : {A : Type 0} (xs : List A) (count : ℕ) → count ≡ length xs → count ≡ 0 → xs ≡ []
empty [] count is none = refl
empty (x ∷ xs) count is none = absurd (omega (arith, is, none))

-- the goals that were placed
abbrev goals_of : List Placed → List Goal
goals_of placed = map (λ p. p.goal) placed

module _ (plan : Plan) (of : Weighed) where
  abbrev Is : PlainCases → Goal → PlainCases → Placed → Type 0
  Is old goal new p = IsPlacedGoal (format_by plan.form) of old goal new p

  goals_are : (old new : PlainCases) (goals : List Goal) (placed : List Placed) → AllSteps Is old goals new placed → goals ≡ goals_of placed
  goals_are old new [] placed are = ap goals_of (sym are.0)
  goals_are old new (goal ∷ goals) placed are =
      ap (λ (l : List Goal). goal ∷ l) (goals_are are.0 new goals are.2 are.5) ∙ ap (λ (x : Goal). x ∷ goals_of are.2) (sym are.4.is_of) ∙ ap goals_of (sym are.3)

module _ (plan : Plan) (of : Weighed) (before after : PlainCases) (all : List Placed) where
  -- of all these goals some are joined, and these are left
  pub record AreJoining (left : List Placed) (rendered : List (Option Rendered)) (entries : List MadeEntry) : Type 0 where
    pub done : List Goal
    pub rest : List Goal
    pub mid : PlainCases
    pub split : goals_of all ≡ done ++ rest
    pub made : AreMade plan of before done mid entries
    pub are : AllSteps (Is plan of) mid rest after left
    pub are_rendered : AreRendered (means_in plan.form) left rendered

  module _ (goals : List Goal) (placed : List Placed) (is_all : all ≡ placed) (are : AllSteps (Is plan of) before goals after placed) where
    same_goals : goals ≡ goals_of all
    same_goals = goals_are plan of before after goals placed are ∙ ap goals_of (sym is_all)

    pub joining_none : (rendered answers : List (Option Rendered)) (entries : List MadeEntry) → rendered ≡ answers → entries ≡ [] → AreRendered (means_in plan.form) placed answers → AreJoining all rendered entries
    joining_none rendered answers entries is_answers none are_rendered = record {
      done = [];
      rest = goals;
      mid = before;
      split = sym same_goals;
      made = (none, refl);
      are = subst (AllSteps (Is plan of) before goals after) (sym is_all) are;
      are_rendered =
          subst (λ (l : List Placed). AreRendered (means_in plan.form) l rendered) (sym is_all) (subst (AreRendered (means_in plan.form) placed) (sym is_answers) are_rendered);
    }

    pub joining_all : (left : List Placed) (rendered : List (Option Rendered)) (entries : List MadeEntry) → AreJoining left rendered entries → left ≡ [] → AreMade plan of before goals after entries
    joining_all left rendered entries so_far none =
        let last = no_step (Is plan of) so_far.mid after so_far.rest (subst (AllSteps (Is plan of) so_far.mid so_far.rest after) none so_far.are) in
        let all_done : goals ≡ so_far.done = same_goals ∙ so_far.split ∙ ap (λ (l : List Goal). so_far.done ++ l) last.0 ∙ append-nil so_far.done in
        subst (λ (l : List Goal). AreMade plan of before l after entries) (sym all_done) (subst (λ (c : PlainCases). AreMade plan of before so_far.done c entries) (sym last.1) so_far.made)

  module _ (left : List Placed) (rendered : List (Option Rendered)) (entries : List MadeEntry) (so_far : AreJoining left rendered entries) where
    pub joining_has : (p : Placed) (others : List Placed) → left ≡ p ∷ others → HasItsCase p.verdict p.shared (first_in rendered)
    joining_has p others is =
        let first = first_step (Is plan of) so_far.mid after so_far.rest p others (subst (AllSteps (Is plan of) so_far.mid so_far.rest after) is so_far.are) in
        let answer = first_answer (means_in plan.form) p others rendered (subst (λ (l : List Placed). AreRendered (means_in plan.form) l rendered) is so_far.are_rendered) in
        case_in plan.form so_far.mid first.mid first.x p (first_in rendered) first.step.shared answer.0

    pub joining_more : (p : Placed) (others : List Placed) (m : MadeEntry) (rendered_left : List (Option Rendered)) (more : List MadeEntry) → left ≡ p ∷ others → m ≡ made_of p (first_in rendered) → rendered_left ≡ rest_of rendered → more ≡ entries ++ m ∷ [] → AreJoining others rendered_left more
    joining_more p others m rendered_left more is made_is left_is grown =
        let first = first_step (Is plan of) so_far.mid after so_far.rest p others (subst (AllSteps (Is plan of) so_far.mid so_far.rest after) is so_far.are) in
        let answer = first_answer (means_in plan.form) p others rendered (subst (λ (l : List Placed). AreRendered (means_in plan.form) l rendered) is so_far.are_rendered) in
        let one : IsMadeIn plan of so_far.mid first.x first.mid (made_of p (first_in rendered)) = record {
          of_grammar = first.step.of_grammar;
          is_of = first.step.is_of;
          verdict = first.step.verdict;
          shared = first.step.shared;
          tokens = first.step.tokens;
          text = text_in (means_in plan.form) p (first_in rendered) answer.0;
        } in
        let made = steps_push (IsMadeIn plan of) before so_far.mid first.mid so_far.done first.x entries m so_far.made (subst (IsMadeIn plan of so_far.mid first.x first.mid) (sym made_is) one) in
        record {
          done = so_far.done ++ first.x ∷ [];
          rest = first.others;
          mid = first.mid;
          split = so_far.split ∙ ap (λ (l : List Goal). so_far.done ++ l) first.split ∙ sym (append_assoc so_far.done (first.x ∷ []) first.others);
          made = subst (AreMade plan of before (so_far.done ++ first.x ∷ []) first.mid) (sym grown) made;
          are = first.more;
          are_rendered = subst (AreRendered (means_in plan.form) others) (sym left_is) answer.1;
        }

-- ---- all of them

-- something is made of all that were placed
pub record AreAllMade (plan : Plan) (old new : ToJudge) (before after : PlainCases) (placed : List Placed) (entries : List MadeEntry) : Type 0 where
  pub next : ArePlacedNext (format_by plan.form) old before new after placed
  pub made : AreMade plan old.tables before next.goals after entries

module _ (plan : Plan) (old new : ToJudge) (before after : PlainCases) (placed : List Placed) (entries : List MadeEntry) (all : AreAllMade plan old new before after placed entries) where
  -- of each one thing
  pub as_many_made : length entries ≡ length placed
  as_many_made =
      steps_length (IsMadeIn plan old.tables) before after all.next.goals entries all.made
      ∙ sym (steps_length (IsPlacedGoal (format_by plan.form) old.tables) before after all.next.goals placed all.next.are)

  -- that is next
  pub are_next : (placed ≡ [] → old.goals ≡ []) → AreNext plan old before entries new after
  are_next some = record {
    goals = all.next.goals;
    split = all.next.split;
    each = all.made;
    some = λ none.
        let nothing : length entries ≡ 0 = ap length none in
        some (empty placed (length placed) refl (omega (arith, as_many_made, nothing)));
  }
