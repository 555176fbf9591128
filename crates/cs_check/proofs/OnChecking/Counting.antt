-- What the end counts.
use Rattle.std.proofs.Common.{◌≡◌, ℕ, ◌+◌, ◌<◌, ◌≤◌, Bool, true, List, [], ◌∷◌, ◌++◌, length, refl, sym, ap, ◌∙◌, subst, arith, eq-eqb}
use Rattle.std.specs.Prelude.{◌==◌, ◌&&◌, cond, count_by}
use Rattle.std.proofs.lemmas.Bool.{and_parts, and_from, eqb-true}
use Rattle.std.proofs.lemmas.List.{length_push}
use Rattle.std.proofs.lemmas.List.Sums.{sum_by_push, count_by-le-length}
use Rattle.cs_lines.specs.declared.lines.line.Counts as held
use Rattle.cs_lines.specs.declared.lines.line.Verdict.TheVariants as told_verdicts
use Rattle.cs_lines.specs.Words.Edits.{EditWords}
use Rattle.cs_lines.specs.Lines.Line.{GoalWords, VerdictWords, Feasible, Infeasible, Large, Counts, Line, Opening, Weighing, TokenLine, RuleLine, LexemeLine, SetLine, RowLine, CaseLine, DeriveLine, TokensLine, TextLine, NoLexemeLine, NoScanLine, GoalLine, BaseLine, NegativeLine, EndLine}
use Rattle.cs_lines.specs.Lines.Numbers.{IsRead}
use Rattle.cs_lines.specs.Lines.Read.{TellsVerdict, TellsCounts}
use Rattle.cs_check.specs.Passing.Above.{size_in, goal_in, verdict_in, edit_in, case_sizes, goals_in, verdicts, edits, is_feasible, is_infeasible, is_large}
use Rattle.cs_check.specs.Passing.Faults.{counted}
use Rattle.cs_check.specs.Checking.Told.{AreCounts}
use Rattle.cs_check.proofs.OnChecking.Told.{kept, added, few_told}

-- ---- with a goal more

module _ (lines : List Line) (old : held.Counts) (t : AreCounts lines old) (few : length lines < 4294967296) where
  pub few_goals : old.goals < 4294967296
  few_goals = let told = few_told goal_in lines in let is = t.goals in omega arith

  few_verdicts : (p : VerdictWords → Bool) (count : ℕ) → count ≡ count_by p (verdicts lines) → count < 4294967296
  few_verdicts p count is =
      let told = few_told verdict_in lines in
      let within = count_by-le-length p (verdicts lines) in
      omega arith

  pub few_feasible : old.feasible < 4294967296
  few_feasible = few_verdicts is_feasible old.feasible t.feasible

  pub few_infeasible : old.infeasible < 4294967296
  few_infeasible = few_verdicts is_infeasible old.infeasible t.infeasible

  pub few_large : old.large < 4294967296
  few_large = few_verdicts is_large old.large t.large

  module _ (n : ℕ) (w : GoalWords) where
    verdict_more : (v : VerdictWords) (p : VerdictWords → Bool) (count new : ℕ) → count ≡ count_by p (verdicts lines) → new ≡ count + cond (p v) 1 0 → new ≡ count_by p (verdicts (lines ++ GoalLine n w v ∷ []))
    verdict_more v p count new is more =
        more
        ∙ ap (λ (k : ℕ). k + cond (p v) 1 0) is
        ∙ sym (sum_by_push (λ (x : VerdictWords). cond (p x) 1 0) (verdicts lines) v)
        ∙ sym (ap (λ (x : List VerdictWords). count_by p x) (added verdict_in lines (GoalLine n w v) v refl))

    goal_counted : (v : VerdictWords) (new : held.Counts) → new.goals ≡ old.goals + 1 → new.feasible ≡ old.feasible + cond (is_feasible v) 1 0 → new.infeasible ≡ old.infeasible + cond (is_infeasible v) 1 0 → new.large ≡ old.large + cond (is_large v) 1 0 → new.negatives ≡ old.negatives → new.cases ≡ old.cases → AreCounts (lines ++ GoalLine n w v ∷ []) new
    goal_counted v new goals feasible infeasible large negatives cases =
        let l : Line = GoalLine n w v in
        record {
          goals =
              goals ∙ ap (λ (k : ℕ). k + 1) t.goals
              ∙ sym (ap (λ (x : List GoalWords). length x) (added goal_in lines l w refl) ∙ length_push (goals_in lines) w);
          feasible = verdict_more v is_feasible old.feasible new.feasible t.feasible feasible;
          infeasible = verdict_more v is_infeasible old.infeasible new.infeasible t.infeasible infeasible;
          large = verdict_more v is_large old.large new.large t.large large;
          negatives = negatives ∙ t.negatives ∙ sym (ap (λ (x : List EditWords). length x) (kept edit_in lines l refl));
          cases = cases ∙ t.cases ∙ sym (ap (λ (x : List ℕ). length x) (kept size_in lines l refl));
        }

    module _ (goals : ℕ) (more_goals : goals ≡ old.goals + 1) where
      pub feasible_counted : (s c f k : ℕ) (v : VerdictWords) → TellsVerdict (told_verdicts.Feasible s c f) v → k ≡ old.feasible + 1 → AreCounts (lines ++ GoalLine n w v ∷ []) (record old { goals = goals; feasible = k })
      feasible_counted s c f k (Feasible size case first) told more =
          goal_counted (Feasible size case first) (record old { goals = goals; feasible = k }) more_goals more (omega arith) (omega arith) refl refl
      feasible_counted s c f k Infeasible told more = absurd told
      feasible_counted s c f k Large told more = absurd told

      pub infeasible_counted : (k : ℕ) (v : VerdictWords) → TellsVerdict told_verdicts.Infeasible v → k ≡ old.infeasible + 1 → AreCounts (lines ++ GoalLine n w v ∷ []) (record old { goals = goals; infeasible = k })
      infeasible_counted k (Feasible size case first) told more = absurd told
      infeasible_counted k Infeasible told more =
          goal_counted Infeasible (record old { goals = goals; infeasible = k }) more_goals (omega arith) more (omega arith) refl refl
      infeasible_counted k Large told more = absurd told

      pub large_counted : (k : ℕ) (v : VerdictWords) → TellsVerdict told_verdicts.Large v → k ≡ old.large + 1 → AreCounts (lines ++ GoalLine n w v ∷ []) (record old { goals = goals; large = k })
      large_counted k (Feasible size case first) told more = absurd told
      large_counted k Infeasible told more = absurd told
      large_counted k Large told more =
          goal_counted Large (record old { goals = goals; large = k }) more_goals (omega arith) (omega arith) more refl refl

-- ---- the totals

-- each goal has a verdict
goals_judged : (lines : List Line) → length (goals_in lines) ≡ length (verdicts lines)
goals_judged [] = refl
goals_judged (Opening ∷ lines) = goals_judged lines
goals_judged (Weighing weigh ∷ lines) = goals_judged lines
goals_judged (TokenLine number name ∷ lines) = goals_judged lines
goals_judged (RuleLine number left right ∷ lines) = goals_judged lines
goals_judged (LexemeLine name text ∷ lines) = goals_judged lines
goals_judged (SetLine kind names ∷ lines) = goals_judged lines
goals_judged (RowLine kind name names ∷ lines) = goals_judged lines
goals_judged (CaseLine number size ∷ lines) = goals_judged lines
goals_judged (DeriveLine rules ∷ lines) = goals_judged lines
goals_judged (TokensLine names ∷ lines) = goals_judged lines
goals_judged (TextLine text ∷ lines) = goals_judged lines
goals_judged (NoLexemeLine name ∷ lines) = goals_judged lines
goals_judged (NoScanLine after ∷ lines) = goals_judged lines
goals_judged (GoalLine number goal verdict ∷ lines) = let same = goals_judged lines in omega arith
goals_judged (BaseLine number goal ∷ lines) = goals_judged lines
goals_judged (NegativeLine number base edit left right at ∷ lines) = goals_judged lines
goals_judged (EndLine counts ∷ lines) = goals_judged lines

same_counts : (a b : Counts) → a.goals ≡ b.goals → a.feasible ≡ b.feasible → a.infeasible ≡ b.infeasible → a.large ≡ b.large → a.negatives ≡ b.negatives → a.cases ≡ b.cases → a ≡ b
same_counts a b goals feasible infeasible large negatives cases =
    ap (λ (k : ℕ). record a { goals = k }) goals
    ∙ ap (λ (k : ℕ). record a { goals = b.goals; feasible = k }) feasible
    ∙ ap (λ (k : ℕ). record a { goals = b.goals; feasible = b.feasible; infeasible = k }) infeasible
    ∙ ap (λ (k : ℕ). record b { large = k; negatives = a.negatives; cases = a.cases }) large
    ∙ ap (λ (k : ℕ). record b { negatives = k; cases = a.cases }) negatives
    ∙ ap (λ (k : ℕ). record b { cases = k }) cases

same_held : (a b : held.Counts) → a.goals ≡ b.goals → a.feasible ≡ b.feasible → a.infeasible ≡ b.infeasible → a.large ≡ b.large → a.negatives ≡ b.negatives → a.cases ≡ b.cases → a ≡ b
same_held a b goals feasible infeasible large negatives cases =
    ap (λ (k : ℕ). record a { goals = k }) goals
    ∙ ap (λ (k : ℕ). record a { goals = b.goals; feasible = k }) feasible
    ∙ ap (λ (k : ℕ). record a { goals = b.goals; feasible = b.feasible; infeasible = k }) infeasible
    ∙ ap (λ (k : ℕ). record b { large = k; negatives = a.negatives; cases = a.cases }) large
    ∙ ap (λ (k : ℕ). record b { negatives = k; cases = a.cases }) negatives
    ∙ ap (λ (k : ℕ). record b { cases = k }) cases

-- that counts are the same, one number after the other
abbrev pub equal : held.Counts → held.Counts → Bool
equal a b =
    (a.goals == b.goals)
    && ((a.feasible == b.feasible) && ((a.infeasible == b.infeasible) && ((a.large == b.large) && ((a.negatives == b.negatives) && (a.cases == b.cases)))))

pub equal_same : (a b : held.Counts) → equal a b ≡ true → a ≡ b
equal_same a b is =
    let goals = and_parts (a.goals == b.goals) _ is in
    let feasible = and_parts (a.feasible == b.feasible) _ goals.1 in
    let infeasible = and_parts (a.infeasible == b.infeasible) _ feasible.1 in
    let large = and_parts (a.large == b.large) _ infeasible.1 in
    let negatives = and_parts (a.negatives == b.negatives) _ large.1 in
    same_held a b (eqb-true a.goals b.goals goals.0) (eqb-true a.feasible b.feasible feasible.0)
    (eqb-true a.infeasible b.infeasible infeasible.0) (eqb-true a.large b.large large.0)
    (eqb-true a.negatives b.negatives negatives.0) (eqb-true a.cases b.cases negatives.1)

pub same_equal : (a b : held.Counts) → a ≡ b → equal a b ≡ true
same_equal a b same =
    subst (λ (x : held.Counts). equal a x ≡ true) same
    (and_from _ _ (eq-eqb a.goals a.goals refl)
    (and_from _ _ (eq-eqb a.feasible a.feasible refl)
    (and_from _ _ (eq-eqb a.infeasible a.infeasible refl)
    (and_from _ _ (eq-eqb a.large a.large refl) (and_from _ _ (eq-eqb a.negatives a.negatives refl) (eq-eqb a.cases a.cases refl))))))

module _ (lines : List Line) (e : held.Counts) (t : AreCounts lines e) (few : length lines < 4294967296) (told : held.Counts) (counts : Counts) (tells : TellsCounts told counts) where
  -- a number that is counted is told as it is
  count_told : (number read count : ℕ) → IsRead number read → count ≤ length lines → read ≡ count → number ≡ count
  count_told number read count is within same = omega arith

  told_count : (number read count : ℕ) → IsRead number read → count ≤ length lines → number ≡ count → read ≡ count
  told_count number read count is within same = omega arith

  within_verdicts : (p : VerdictWords → Bool) → count_by p (verdicts lines) ≤ length lines
  within_verdicts p =
      let few_verdicts = few_told verdict_in lines in
      let within = count_by-le-length p (verdicts lines) in
      omega arith

  pub totals_right : told ≡ e → counts ≡ counted lines
  totals_right same =
      same_counts counts (counted lines)
      (count_told counts.goals told.goals (length (verdicts lines)) tells.goals (few_told verdict_in lines)
      (ap (λ (c : held.Counts). c.goals) same ∙ t.goals ∙ goals_judged lines))
      (count_told counts.feasible told.feasible (count_by is_feasible (verdicts lines)) tells.feasible (within_verdicts is_feasible)
      (ap (λ (c : held.Counts). c.feasible) same ∙ t.feasible))
      (count_told counts.infeasible told.infeasible (count_by is_infeasible (verdicts lines)) tells.infeasible (within_verdicts is_infeasible)
      (ap (λ (c : held.Counts). c.infeasible) same ∙ t.infeasible))
      (count_told counts.large told.large (count_by is_large (verdicts lines)) tells.large (within_verdicts is_large)
      (ap (λ (c : held.Counts). c.large) same ∙ t.large))
      (count_told counts.negatives told.negatives (length (edits lines)) tells.negatives (few_told edit_in lines)
      (ap (λ (c : held.Counts). c.negatives) same ∙ t.negatives))
      (count_told counts.cases told.cases (length (case_sizes lines)) tells.cases (few_told size_in lines)
      (ap (λ (c : held.Counts). c.cases) same ∙ t.cases))

  totals_same : counts ≡ counted lines → told ≡ e
  totals_same same =
      same_held told e
      (told_count counts.goals told.goals (length (verdicts lines)) tells.goals (few_told verdict_in lines) (ap (λ (c : Counts). c.goals) same)
      ∙ sym (t.goals ∙ goals_judged lines))
      (told_count counts.feasible told.feasible (count_by is_feasible (verdicts lines)) tells.feasible (within_verdicts is_feasible)
      (ap (λ (c : Counts). c.feasible) same)
      ∙ sym t.feasible)
      (told_count counts.infeasible told.infeasible (count_by is_infeasible (verdicts lines)) tells.infeasible (within_verdicts is_infeasible)
      (ap (λ (c : Counts). c.infeasible) same)
      ∙ sym t.infeasible)
      (told_count counts.large told.large (count_by is_large (verdicts lines)) tells.large (within_verdicts is_large)
      (ap (λ (c : Counts). c.large) same)
      ∙ sym t.large)
      (told_count counts.negatives told.negatives (length (edits lines)) tells.negatives (few_told edit_in lines) (ap (λ (c : Counts). c.negatives) same)
      ∙ sym t.negatives)
      (told_count counts.cases told.cases (length (case_sizes lines)) tells.cases (few_told size_in lines) (ap (λ (c : Counts). c.cases) same)
      ∙ sym t.cases)

  pub totals_wrong : (told ≡ e → ⊥) → counts ≡ counted lines → ⊥
  totals_wrong other same = other (totals_same same)
