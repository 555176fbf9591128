-- The lines of all goals, one behind the other, lack each fault.
use Rattle.std.proofs.Common.{◌≡◌, ℕ, ◌+◌, Bool, true, false, List, [], ◌∷◌, ◌++◌, Option, None, Some, length, length-append, refl, sym, ◌∙◌, subst, append_assoc, append-nil, arith}
use Rattle.std.specs.Prelude.{if◌then◌else◌}
use Rattle.std.specs.List.{AllByRecursion, Contains}
use Rattle.cs_goals.specs.declared.goal.Goal.{Goal}
use Rattle.cs_texts.specs.Rendering.Rendering.{Rendering}
use Rattle.cs_verdicts.specs.declared.positive.verdict.Verdict.{Verdict}
use Rattle.cs_verdicts.specs.declared.positive.verdict.Verdict.TheVariants as verdict
use Rattle.cs_verdicts.specs.Positive.Verdict.{IsVerdict}
use Rattle.cs_verdicts.specs.Cases.Cases.{PlainCases}
use Rattle.cs_manifest.specs.declared.manifest.verdict.SharedVerdict.{SharedVerdict}
use Rattle.cs_manifest.specs.declared.manifest.verdict.SharedVerdict.TheVariants as shared
use Rattle.cs_manifest.specs.Manifest.Manifest.{AreShared, AreTokensOf, GoalEntry, IsRenderedIf, IsShared, IsSharedVerdict, SharedEntry, is_new}
use Rattle.cs_lines.specs.Lines.Line.{GoalWords, VerdictWords, Feasible, Infeasible, Large, Line, GoalLine}
use Rattle.cs_check.specs.Passing.Entries.{HasSize}
use Rattle.cs_check.specs.Passing.Goals.{words_of, IsDue}
use Rattle.cs_check.specs.Passing.Places.{last_part, next_parts}
use Rattle.cs_accord.specs.Suite.{numbered, case_lines, new_case_by, entry_lines, verdict_of}
use Rattle.cs_accord.proofs.OnSuite.Above.{IsAbove, IsBehind, behind_none, behind_both}
use Rattle.cs_accord.proofs.OnSuite.Cases.{Case, IsCaseOf, IsNext, AreMeeting, case_fine, feasible_fine, infeasible_fine, large_fine}
use Rattle.cs_accord.proofs.OnSuite.Due.{AreDue, words_in}
use Rattle.cs_accord.proofs.OnSuite.Entries.{AreOf, AreSized, Picked, IsPicked, shown_by, still_of, fresh_codes, same_codes, fresh_number, own_numbered, first_met, sized_push, sized_many, sized_at}
use Rattle.cs_accord.proofs.OnSuite.Fine.{AreFine, fine_both}
use Rattle.cs_accord.proofs.OnSuite.Measures.{same_numbers, same_size}
use Rattle.cs_accord.proofs.OnSuite.Setting.{Setting, IsSetting, IsKnownEntry, by, goals_of, measure, told_measure, words_told}
use Rattle.cs_accord.proofs.OnSuite.Telling.{Content, in_head, of_case, of_text, of_goal, of_base, of_end}

-- goals, bases and the end may come there
pub record IsStart (shown : List Line) : Type 0 where
  pub case : Contains (next_parts (last_part shown)) (last_part of_case)
  pub goal : Contains (next_parts (last_part shown)) (last_part of_goal)
  pub base : Contains (next_parts (last_part shown)) (last_part of_base)
  pub end : Contains (next_parts (last_part shown)) (last_part of_end)

pub head_starts : IsStart in_head
head_starts = record { case = (0, omega arith, refl); goal = (1, omega arith, refl); base = (2, omega arith, refl); end = (3, omega arith, refl) }

pub goal_starts : IsStart of_goal
goal_starts = record { case = (0, omega arith, refl); goal = (1, omega arith, refl); base = (2, omega arith, refl); end = (3, omega arith, refl) }

-- how far the goals have come: the cases, and the goals with their verdicts
pub record Progress : Type 0 where
  pub cases : PlainCases
  pub goals : List GoalWords
  pub words : List VerdictWords

abbrev pub with_one : Setting → Progress → PlainCases → Goal → VerdictWords → Progress
with_one s p new goal verdict = record { cases = new; goals = p.goals ++ words_of s.file goal ∷ []; words = p.words ++ verdict ∷ [] }

abbrev pub with_all : Setting → Progress → PlainCases → List GoalEntry → List SharedEntry → Progress
with_all s p new entries list = record { cases = new; goals = p.goals ++ words_in s.file (goals_of entries); words = p.words ++ words_told list }

-- what is told then, where the last line stands there, and the cases have these sizes
abbrev pub content_of : Progress → List Line → List ℕ → Content
content_of p shown sizes = record { shown = shown; sizes = sizes; codes = p.cases.codes; goals = p.goals; words = p.words; bases = []; edits = [] }

pub record IsProgress (s : Setting) (above : List Line) (p : Progress) : Type 0 where
  pub shown : List Line
  pub starts : IsStart shown
  pub sizes : List ℕ
  pub told : IsAbove s above (content_of p shown sizes)
  pub sized : AreSized s.file.grammar (told_measure s) sizes p.cases.codes
  pub of : AreOf s.file.grammar p.cases

-- lines that lack each fault, and how far the goals have come behind them
pub record IsThrough (s : Setting) (above lines : List Line) (p : Progress) : Type 0 where
  pub fine : AreFine (by s) above lines
  pub progress : IsProgress s (above ++ lines) p

through_both : {s : Setting} {above : List Line} {p q : Progress} (xs ys : List Line) → IsThrough s above xs p → IsThrough s (above ++ xs) ys q → IsThrough s above (xs ++ ys) q
through_both {s} {above} {p} {q} xs ys first second = record {
  fine = fine_both (by s) above xs ys first.fine second.fine;
  progress = subst (λ (x : List Line). IsProgress s x q) (append_assoc above xs ys) second.progress;
}

-- ---- one goal

module _ {s : Setting} (is : IsSetting s) {above : List Line} {p : Progress} (so : IsProgress s above p) {goal : Goal} (due : IsDue s.file p.goals (words_of s.file goal) goal) where
  abbrev At : VerdictWords → Line
  At verdict = GoalLine (length p.goals + 1) (words_of s.file goal) verdict

  -- a goal without a case
  bare : (verdict : VerdictWords) → IsBehind s above (At verdict ∷ []) (content_of (with_one s p p.cases goal verdict) of_goal so.sizes) → IsThrough s above (At verdict ∷ []) (with_one s p p.cases goal verdict)
  bare verdict b = record {
    fine = b.fine;
    progress = record { shown = of_goal; starts = goal_starts; sizes = so.sizes; told = b.told; sized = so.sized; of = so.of };
  }

  module _ {new : PlainCases} {k : Picked} (pick : IsPicked s p.cases new goal k) where
    abbrev Words : VerdictWords
    Words = Feasible k.size k.name.case k.name.first

    abbrev Behind : List Line → Type 0
    Behind lines = IsThrough s above (lines ++ At Words ∷ []) (with_one s p new goal Words)

    -- what is told before the goal's line, where the cases have these derivations
    abbrev Before : List Line → List ℕ → List (List ℕ) → Content
    Before shown sizes codes = record { shown = shown; sizes = sizes; codes = codes; goals = p.goals; words = p.words; bases = []; edits = [] }

    has_size : HasSize s.file.grammar (told_measure s) k.derivation k.size
    has_size =
        let shown = shown_by (measure s) s.file.grammar goal k.size k.derivation pick.verdict in
        record {
          tree = shown.tree;
          is_tree = shown.is_tree;
          code = shown.code_is;
          size = shown.sized ∙ same_size (measure s) (told_measure s) (same_numbers s.choice.weigh s.file.grammar.tokens s.lexemes is.lexemes.all) shown.tree;
        }

    -- the goal's line, below its case
    named_fine : (lines shown : List Line) (sizes : List ℕ) → Contains (next_parts (last_part shown)) (last_part of_goal) → IsBehind s above lines (Before shown sizes new.codes) → AreSized s.file.grammar (told_measure s) sizes new.codes → Behind lines
    named_fine lines shown sizes follows before all_sized =
        let new_of = still_of pick.placed s.file.grammar so.of in
        let own = own_numbered pick.placed in
        let tree = shown_by (measure s) s.file.grammar goal k.size k.derivation pick.verdict in
        let meeting : AreMeeting s.file.grammar (Before shown sizes new.codes) goal k.size k.name.case k.name.first = record {
          sized = sized_at s.file.grammar (told_measure s) sizes new.codes k.name.case k.size k.derivation all_sized own has_size;
          met = (k.derivation, own, tree.meets);
          met_first = first_met pick.placed s.file.grammar new_of;
        } in
        let next : IsNext s (Before shown sizes new.codes) goal = record { follows = follows; due = due } in
        let both = behind_both lines (At Words ∷ []) before (feasible_fine before.told next k.size k.name.case k.name.first meeting) in
        record {
          fine = both.fine;
          progress = record { shown = of_goal; starts = goal_starts; sizes = sizes; told = both.told; sized = all_sized; of = new_of };
        }

    -- with its new case
    with_case : (rendered : Option Rendering) → k.name.fresh ≡ true → IsRenderedIf true (Some s.texts) (Some s.lexemes) k.tokens rendered → Behind (case_lines s.file k.name.case k.size k.derivation k.tokens rendered)
    with_case None fresh text = absurd text
    with_case (Some r) fresh text =
        let lines = case_lines s.file k.name.case k.size k.derivation k.tokens (Some r) in
        let sizes = so.sizes ++ k.size ∷ [] in
        let as_many = sized_many s.file.grammar (told_measure s) so.sizes p.cases.codes so.sized in
        let number_is = fresh_number pick.placed fresh in
        let number : k.name.case ≡ length so.sizes + 1 = omega (arith, number_is, as_many) in
        let one : Case = record { size = k.size; rules = k.derivation; tokens = k.tokens; rendered = r } in
        let is_case : IsCaseOf s one = record { has = has_size; yields = pick.yields; text = text } in
        let codes = sym (fresh_codes pick.placed fresh) in
        named_fine lines of_text sizes (0, omega arith, refl)
        (subst (λ (x : List (List ℕ)). IsBehind s above lines (Before of_text sizes x)) codes (case_fine so.told k.name.case one so.starts.case number is_case))
        (subst (λ (x : List (List ℕ)). AreSized s.file.grammar (told_measure s) sizes x) codes (sized_push s.file.grammar (told_measure s) so.sizes p.cases.codes k.size k.derivation so.sized has_size))

    -- where its case is above
    with_none : k.name.fresh ≡ false → Behind []
    with_none fresh =
        let codes = sym (same_codes pick.placed fresh) in
        named_fine [] so.shown so.sizes so.starts.goal (subst (λ (x : List (List ℕ)). IsBehind s above [] (Before so.shown so.sizes x)) codes (behind_none so.told))
        (subst (λ (x : List (List ℕ)). AreSized s.file.grammar (told_measure s) so.sizes x) codes so.sized)

    by_fresh : (rendered : Option Rendering) (b : Bool) → k.name.fresh ≡ b → IsRenderedIf b (Some s.texts) (Some s.lexemes) k.tokens rendered
        → Behind (if b then case_lines s.file k.name.case k.size k.derivation k.tokens rendered else [])
    by_fresh rendered true fresh text = with_case rendered fresh text
    by_fresh rendered false fresh text = with_none fresh

-- one entry of the list
module _ {s : Setting} (is : IsSetting s) {above : List Line} {p : Progress} (so : IsProgress s above p) {e : GoalEntry} (known : IsKnownEntry s e)
    (due : IsDue s.file p.goals (words_of s.file e.goal) e.goal) (sh : SharedEntry) where
  -- what comes of it, if this is its verdict, that in the second format, and the cases behind it
  abbrev Comes : Verdict → SharedVerdict → PlainCases → Type 0
  Comes v sv cases =
      IsThrough s above (new_case_by s.file (record e { verdict = v }) sh.rendered sv ++ GoalLine (length p.goals + 1) (words_of s.file e.goal) (verdict_of sv) ∷ []) (with_one s p cases e.goal (verdict_of sv))

  next : IsNext s (content_of p so.shown so.sizes) e.goal
  next = record { follows = so.starts.goal; due = due }

  step : (new : PlainCases) (v : Verdict) → IsVerdict (measure s) s.file.grammar e.goal v → AreTokensOf s.file.grammar v e.tokens → IsSharedVerdict p.cases e.goal v new sh.verdict
      → IsRenderedIf (is_new sh.verdict) (Some s.texts) (Some s.lexemes) e.tokens sh.rendered → Comes v sh.verdict new
  step new (verdict.Feasible m derivation) v yields h text =
      let k : Picked = record { size = m; derivation = derivation; tokens = e.tokens; name = h.0 } in
      let pick : IsPicked s p.cases new e.goal k = record { verdict = v; placed = h.2; yields = yields } in
      let text_here = subst (λ (x : SharedVerdict). IsRenderedIf (is_new x) (Some s.texts) (Some s.lexemes) e.tokens sh.rendered) h.1 text in
      subst (λ (x : SharedVerdict). Comes (verdict.Feasible m derivation) x new) (sym h.1) (by_fresh is so due pick sh.rendered h.0.fresh refl text_here)
  step new verdict.Infeasible v yields h text =
      subst (λ (x : SharedVerdict). Comes verdict.Infeasible x new) (sym h.0)
      (subst (λ (x : PlainCases). Comes verdict.Infeasible shared.Infeasible x) (sym h.1)
      (bare is so due Infeasible (infeasible_fine so.told next is known.is_goal (λ u tree meets. v u (tree, meets)))))
  step new verdict.Large v yields h text =
      subst (λ (x : SharedVerdict). Comes verdict.Large x new) (sym h.0)
      (subst (λ (x : PlainCases). Comes verdict.Large shared.Large x) (sym h.1) (bare is so due Large (large_fine so.told next)))

  entry_step : {new : PlainCases} → IsShared (Some s.texts) (Some s.lexemes) p.cases e new sh → IsThrough s above (entry_lines s.file (length p.goals + 1) sh) (with_one s p new e.goal (verdict_of sh.verdict))
  entry_step {new} h =
      subst (λ (x : GoalEntry). IsThrough s above (new_case_by s.file x sh.rendered sh.verdict ++ GoalLine (length p.goals + 1) (words_of s.file x.goal) (verdict_of sh.verdict) ∷ []) (with_one s p new e.goal (verdict_of sh.verdict)))
      (sym h.is_of) (step new e.verdict known.verdict known.tokens h.verdict h.text)

-- ---- all goals

module _ {s : Setting} (is : IsSetting s) where
  pub through : (entries : List GoalEntry) → AllByRecursion (IsKnownEntry s) entries → {above : List Line} {p : Progress} → IsProgress s above p → AreDue s.file p.goals (goals_of entries)
      → (new : PlainCases) (list : List SharedEntry) → AreShared (Some s.texts) (Some s.lexemes) p.cases entries new list
      → IsThrough s above (numbered (length p.goals + 1) (entry_lines s.file) list) (with_all s p new entries list)
  through [] known {above} {p} so due new list h =
      let here : IsThrough s above [] p = record { fine = tt; progress = subst (λ (x : List Line). IsProgress s x p) (sym (append-nil above)) so } in
      let words = subst (λ (x : List VerdictWords). IsThrough s above [] (record p { words = x })) (sym (append-nil p.words)) here in
      let nothing = subst (λ (x : List GoalWords). IsThrough s above [] (record p { goals = x; words = p.words ++ [] })) (sym (append-nil p.goals)) words in
      subst (λ (l : List SharedEntry). IsThrough s above (numbered (length p.goals + 1) (entry_lines s.file) l) (with_all s p new [] l)) (sym h.0)
      (subst (λ (x : PlainCases). IsThrough s above [] (with_all s p x [] [])) (sym h.1) nothing)
  through (e ∷ entries) known {above} {p} so due new list h =
      let sh = h.1 in
      let others = h.2 in
      let lines = entry_lines s.file (length p.goals + 1) sh in
      let one = entry_step is so known.0 due.0 sh h.4 in
      let w = words_of s.file e.goal in
      let behind = λ (n : ℕ). numbered n (entry_lines s.file) others in
      let next = length (p.goals ++ w ∷ []) + 1 in
      let next_is : next ≡ length p.goals + 1 + 1 = (let more = length-append p.goals (w ∷ []) in omega (arith, more)) in
      let both = through_both lines (behind next) one (through entries known.1 one.progress due.1 new others h.5) in
      let goals = p.goals ++ w ∷ words_in s.file (goals_of entries) in
      let words = p.words ++ verdict_of sh.verdict ∷ words_told others in
      let all_goals = subst (λ (x : List GoalWords). IsThrough s above (lines ++ behind next) (record { cases = new; goals = x; words = (p.words ++ verdict_of sh.verdict ∷ []) ++ words_told others }))
      (append_assoc p.goals (w ∷ []) (words_in s.file (goals_of entries))) both in
      let all_words = subst (λ (x : List VerdictWords). IsThrough s above (lines ++ behind next) (record { cases = new; goals = goals; words = x })) (append_assoc p.words (verdict_of sh.verdict ∷ []) (words_told others)) all_goals in
      subst (λ (l : List SharedEntry). IsThrough s above (numbered (length p.goals + 1) (entry_lines s.file) l) (with_all s p new (e ∷ entries) l)) (sym h.3)
      (subst (λ (n : ℕ). IsThrough s above (lines ++ behind n) (record { cases = new; goals = goals; words = words })) next_is all_words)
