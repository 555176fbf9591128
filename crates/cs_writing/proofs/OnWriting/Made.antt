-- What is made of goals, as the lines of their entries in either format.
use Rattle.std.proofs.Common.{◌≡◌, ℕ, ◌+◌, List, [], ◌∷◌, ◌++◌, refl, sym, ap, ◌∙◌, subst, Option, None, Some}
use Rattle.std.specs.Prelude.{IsSomeAnd}
use Rattle.cs_verdicts.specs.Cases.Cases.{PlainCases}
use Rattle.cs_grammar.specs.Weights.{Weighed}
use Rattle.cs_goals.specs.declared.goal.Goal.{Goal}
use Rattle.cs_manifest.specs.declared.manifest.verdict.SharedVerdict.{SharedVerdict}
use Rattle.cs_choices.specs.declared.format.Format.{Format}
use Rattle.cs_choices.specs.declared.format.Format.TheVariants.{One, Two}
use Rattle.cs_manifest.specs.Manifest.Lines.{goal_lines}
use Rattle.cs_manifest.specs.Manifest.Manifest.{AreShared, IsRenderedIf, IsShared, IsSharedVerdict, SharedEntry, Texts, goal_entry_lines, shared_entry_lines}
use Rattle.cs_yacc.specs.Reading.File.{File}
use Rattle.cs_writing.specs.declared.plan.plan.Plan.{Plan}
use Rattle.cs_writing.specs.Plan.Entries.{AreMade, IsMade}
use Rattle.cs_writing.specs.Plan.Made.{MadeEntry, case_lines_in, entries_of, entry_of, goal_lines_in, is_asked, made_lines, own_text}
use Rattle.cs_writing.specs.Plan.Plans.{format_by, lexemes_in, texts_in}
use Rattle.cs_writing.specs.Plan.Steps.{AllSteps}
use Rattle.cs_writing.specs.Writing.Written.{AreLinesIn, AreLinesOf, lines_from, made_lines_from, shared_lines_from}

-- its lines, by its verdict in the second format
abbrev lines_by : File → ℕ → MadeEntry → Option SharedVerdict → List ℕ
lines_by file number m verdict = case_lines_in file m verdict ++ goal_lines_in file number m verdict

-- ---- in the first format

own_lines : (file : File) (number : ℕ) (m : MadeEntry) → m.shared ≡ None → made_lines file number m ≡ goal_entry_lines file number (entry_of m)
own_lines file number m none =
    ap (lines_by file number m) none
    ∙ ap (λ (s : Option SharedVerdict). goal_lines file number m.goal m.verdict m.tokens (own_text s m.rendered)) (sym none)

module _ (texts : Option Texts) (lexemes : Option (List (Option (List ℕ)))) (of : Weighed) (file : File) where
  first_lines : (old new : PlainCases) (goals : List Goal) (list : List MadeEntry) → AllSteps (IsMade One texts lexemes of) old goals new list
      → (number : ℕ) → (made_lines_from file number list ≡ lines_from file number (entries_of list)) × (new ≡ old)
  first_lines old new [] list are number =
      (ap (made_lines_from file number) are.0 ∙ ap (λ (l : List MadeEntry). lines_from file number (entries_of l)) (sym are.0), are.1)
  first_lines old new (goal ∷ goals) list are number =
      let m = are.1 in
      let rest = first_lines are.0 new goals are.2 are.5 (number + 1) in (
        ap (made_lines_from file number) are.3 ∙ ap (λ (l : List ℕ). l ++ made_lines_from file (number + 1) are.2) (own_lines file number m are.4.shared.0)
            ∙ ap (λ (l : List ℕ). goal_entry_lines file number (entry_of m) ++ l) rest.0 ∙ ap (λ (l : List MadeEntry). lines_from file number (entries_of l)) (sym are.3),
        rest.1 ∙ are.4.shared.1,
      )

  -- ---- in the second

  -- it is shared so
  abbrev shared_of : MadeEntry → SharedVerdict → SharedEntry
  shared_of m verdict = record { entry = entry_of m; verdict = verdict; rendered = m.rendered }

  some_of : {A : Type 0} {P : A → Type 0} (o : Option A) → IsSomeAnd o P → (a : A) × (o ≡ Some a) × P a
  some_of None has = absurd has
  some_of (Some a) has = (a, refl, has)

  -- what is known of one
  record IsOne (old new : PlainCases) (m : MadeEntry) : Type 0 where
    pub s : SharedEntry
    pub is : IsShared texts lexemes old (entry_of m) new s
    pub lines : (number : ℕ) → made_lines file number m ≡ shared_entry_lines file number s

  one_shared : (old new : PlainCases) (goal : Goal) (m : MadeEntry) → IsMade Two texts lexemes of old goal new m → IsOne old new m
  one_shared old new goal m is =
      let found = some_of m.shared is.shared in
      record {
        s = shared_of m found.0;
        is = record {
          is_of = refl;
          verdict = subst (λ (x : Goal). IsSharedVerdict old x m.verdict new found.0) (sym is.is_of) found.2;
          text = subst (λ (o : Option SharedVerdict). IsRenderedIf (is_asked m.verdict o) texts lexemes m.tokens m.rendered) found.1 is.text;
        };
        lines = λ number. ap (lines_by file number m) found.1;
      }

  record AreSharedSo (old : PlainCases) (list : List MadeEntry) (new : PlainCases) : Type 0 where
    pub shared : List SharedEntry
    pub are : AreShared texts lexemes old (entries_of list) new shared
    pub lines : (number : ℕ) → made_lines_from file number list ≡ shared_lines_from file number shared

  second_lines : (old new : PlainCases) (goals : List Goal) (list : List MadeEntry) → AllSteps (IsMade Two texts lexemes of) old goals new list → AreSharedSo old list new
  second_lines old new [] list are =
      subst (λ (l : List MadeEntry). AreSharedSo old l new) (sym are.0) (record { shared = []; are = (refl, are.1); lines = λ number. refl })
  second_lines old new (goal ∷ goals) list are =
      let one = one_shared old are.0 goal are.1 are.4 in
      let rest = second_lines are.0 new goals are.2 are.5 in
      subst (λ (l : List MadeEntry). AreSharedSo old l new) (sym are.3) (record {
        shared = one.s ∷ rest.shared;
        are = (are.0, one.s, rest.shared, refl, one.is, rest.are);
        lines = λ number. ap (λ (l : List ℕ). l ++ made_lines_from file (number + 1) are.2) (one.lines number)
            ∙ ap (λ (l : List ℕ). shared_entry_lines file number one.s ++ l) (rest.lines (number + 1));
      })

-- ---- in the plan's

told_of : (format : Format) (plan : Plan) (of : Weighed) (before after : PlainCases) (goals : List Goal) (list : List MadeEntry) (number : ℕ)
    → AllSteps (IsMade format (texts_in plan) (lexemes_in plan) of) before goals after list
    → AreLinesOf format plan number before (entries_of list) after (made_lines_from plan.yacc.now number list)
told_of One plan of before after goals list number are = first_lines (texts_in plan) (lexemes_in plan) of plan.yacc.now before after goals list are number
told_of Two plan of before after goals list number are =
    let so = second_lines (texts_in plan) (lexemes_in plan) of plan.yacc.now before after goals list are in
    record { list = so.shared; are = so.are; whole = so.lines number }

-- what is made of goals has its lines
pub made_told : (plan : Plan) (of : Weighed) (before after : PlainCases) (goals : List Goal) (list : List MadeEntry) (number : ℕ) → AreMade plan of before goals after list
    → AreLinesIn plan number before (entries_of list) after (made_lines_from plan.yacc.now number list)
made_told plan of before after goals list number are = told_of (format_by plan.form) plan of before after goals list number are
