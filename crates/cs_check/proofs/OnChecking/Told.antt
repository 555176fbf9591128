-- What the lines have told, with one line more.
use Rattle.std.proofs.Common.{◌≡◌, ℕ, zero, suc, ◌+◌, ◌<◌, ◌≤◌, Bool, true, false, ◌==◌, List, [], ◌∷◌, ◌++◌, Option, Some, None, length, refl, sym, ap, ◌∙◌, subst, ⊎_elim, inl, inr, ◌⊎◌, append-nil, eq-eqb, arith}
use Rattle.std.specs.Prelude.{◌||◌, count_by}
use Rattle.std.specs.List.{AllZip, Contains, filter_map, cons_option}
use Rattle.std.proofs.lemmas.Bool.{false≢true}
use Rattle.std.proofs.lemmas.List.{length-append, length_push}
use Rattle.std.proofs.lemmas.List.Elements.{filter_map-append}
use Rattle.std.proofs.lemmas.List.Sums.{fold-append}
use Rattle.cs_yacc.specs.Reading.File.{File}
use Rattle.cs_lines.specs.Words.Edits.{EditWords}
use Rattle.cs_lines.specs.declared.lines.line.Counts as held
use Rattle.cs_lines.specs.Lines.Line.{GoalWords, VerdictWords, Feasible, Line, CaseLine}
use Rattle.cs_check.specs.Passing.Above.{size_in, derivation_in, goal_in, verdict_in, base_in, edit_in, case_sizes, derivations, goals_in, verdicts, base_goals, edits, is_feasible, is_infeasible, is_large}
use Rattle.cs_check.specs.Passing.Places.{Part, InHead, OfCase, OfDerivation, OfCaseTokens, OfCaseText, OfGoal, OfBase, OfNegative, OfNegativeTokens, OfNegativeText, OfEnd, tokens_part, text_part, part_of, last_part, next_parts}
use Rattle.cs_check.specs.Passing.Entries.{IsNumbered, IsLast, IsCase, IsBase, IsNegative, IsTold}
use Rattle.cs_check.specs.Passing.DueGoals.{KnowsGoals}
use Rattle.cs_check.specs.declared.checking.entries.Entries.{Entries}
use Rattle.cs_lines.specs.Lines.Numbers.{IsRead}
use Rattle.cs_check.specs.Checking.Cases.{PlainCase}
use Rattle.cs_check.specs.Checking.Told.{sizes_of, AreSized, IsCaseOf, HasTold, HasBase, AreCounts, AreEntries}

-- ---- what is told of a kind

module _ {X : Type 0} (in_line : Line → Option X) (lines : List Line) (l : Line) where
  pub kept : in_line l ≡ None → filter_map in_line (lines ++ l ∷ []) ≡ filter_map in_line lines
  kept none =
      filter_map-append in_line lines (l ∷ [])
      ∙ ap (λ (o : Option X). filter_map in_line lines ++ cons_option o []) none
      ∙ append-nil (filter_map in_line lines)

  pub added : (x : X) → in_line l ≡ Some x → filter_map in_line (lines ++ l ∷ []) ≡ filter_map in_line lines ++ x ∷ []
  added x some =
      filter_map-append in_line lines (l ∷ [])
      ∙ ap (λ (o : Option X). filter_map in_line lines ++ cons_option o []) some

pub last_part_more : (lines : List Line) (l : Line) → last_part (lines ++ l ∷ []) ≡ part_of (last_part lines) l
last_part_more lines l = fold-append part_of InHead lines (l ∷ [])

-- ---- one of a list of parts

pub in_none : (p : Part) → Contains [] p → ⊥
in_none p h = let low = h.1 in omega arith

pub in_more : (q : Part) (parts : List Part) (p : Part) → Contains (q ∷ parts) p → (q ≡ p) ⊎ Contains parts p
in_more q parts p (zero, low, is) = inl is
in_more q parts p (suc k, low, is) = let less : k < length parts = omega arith in inr (k, less, is)

-- ---- what stays where the lists stay

module _ (file : File) (lines lines' : List Line) (same_rules : derivations lines' ≡ derivations lines) where
  pub case_kept : (tokens : List ℕ) → IsCase file.grammar lines tokens → IsCase file.grammar lines' tokens
  case_kept tokens h = (h.0, subst (λ (l : List (List ℕ)). IsLast l h.0) (sym same_rules) h.1, h.2)

  module _ (same_verdicts : verdicts lines' ≡ verdicts lines) (same_bases : base_goals lines' ≡ base_goals lines) where
    pub base_kept : (tokens : List ℕ) → IsBase file.grammar lines tokens → IsBase file.grammar lines' tokens
    base_kept tokens h = record {
      goal = h.goal;
      case = h.case;
      rules = h.rules;
      is_goal = subst (λ (l : List ℕ). IsLast l h.goal) (sym same_bases) h.is_goal;
      has_case = (
        h.has_case.0,
        h.has_case.1,
        subst (λ (l : List VerdictWords). IsNumbered l h.goal (Feasible h.has_case.0 h.case h.has_case.1)) (sym same_verdicts) h.has_case.2,
      );
      derived = subst (λ (l : List (List ℕ)). IsNumbered l h.case h.rules) (sym same_rules) h.derived;
      yields = h.yields;
    }

    module _ (same_edits : edits lines' ≡ edits lines) where
      pub negative_kept : (tokens : List ℕ) → IsNegative file lines tokens → IsNegative file lines' tokens
      negative_kept tokens h = (
        h.0,
        subst (λ (l : List EditWords). IsLast l h.0) (sym same_edits) h.1,
        (h.2.0, base_kept h.2.0 h.2.1, h.2.2),
      )

-- what is counted, where neither goals nor verdicts are more
module _ (lines lines' : List Line) (old : held.Counts) (t : AreCounts lines old) (goals_same : goals_in lines' ≡ goals_in lines) (verdicts_same : verdicts lines' ≡ verdicts lines) where
  pub counts_with : (negatives cases : ℕ) → negatives ≡ length (edits lines') → cases ≡ length (case_sizes lines') → AreCounts lines' (record old { negatives = negatives; cases = cases })
  counts_with negatives cases negatives_are cases_are = record {
    goals = t.goals ∙ sym (ap (λ (x : List GoalWords). length x) goals_same);
    feasible = t.feasible ∙ sym (ap (λ (x : List VerdictWords). count_by is_feasible x) verdicts_same);
    infeasible = t.infeasible ∙ sym (ap (λ (x : List VerdictWords). count_by is_infeasible x) verdicts_same);
    large = t.large ∙ sym (ap (λ (x : List VerdictWords). count_by is_large x) verdicts_same);
    negatives = negatives_are;
    cases = cases_are;
  }

-- ---- which parts may follow

abbrev rank : Part → ℕ
rank InHead = 0
rank OfCase = 1
rank OfDerivation = 2
rank OfCaseTokens = 3
rank OfCaseText = 4
rank OfGoal = 5
rank OfBase = 6
rank OfNegative = 7
rank OfNegativeTokens = 8
rank OfNegativeText = 9
rank OfEnd = 10

abbrev among : List Part → Part → Bool
among [] p = false
among (q ∷ parts) p = (rank q == rank p) || among parts p

or_true : (b : Bool) → (b || true) ≡ true
or_true true = refl
or_true false = refl

pub among_true : (parts : List Part) (p : Part) → Contains parts p → among parts p ≡ true
among_true [] p h = absurd (in_none p h)
among_true (q ∷ parts) p h =
    ⊎_elim
    (λ (here : q ≡ p). ap (λ (t : Bool). t || among parts p) (eq-eqb (rank q) (rank p) (ap rank here)))
    (λ (later : Contains parts p). ap (λ (t : Bool). (rank q == rank p) || t) (among_true parts p later) ∙ or_true (rank q == rank p))
    (in_more q parts p h)

-- no line of the head
pub never_inside : (p : Part) → Contains (next_parts p) InHead → ⊥
never_inside InHead h = false≢true (among_true (next_parts InHead) InHead h)
never_inside OfCase h = false≢true (among_true (next_parts OfCase) InHead h)
never_inside OfDerivation h = false≢true (among_true (next_parts OfDerivation) InHead h)
never_inside OfCaseTokens h = false≢true (among_true (next_parts OfCaseTokens) InHead h)
never_inside OfCaseText h = false≢true (among_true (next_parts OfCaseText) InHead h)
never_inside OfGoal h = false≢true (among_true (next_parts OfGoal) InHead h)
never_inside OfBase h = false≢true (among_true (next_parts OfBase) InHead h)
never_inside OfNegative h = false≢true (among_true (next_parts OfNegative) InHead h)
never_inside OfNegativeTokens h = false≢true (among_true (next_parts OfNegativeTokens) InHead h)
never_inside OfNegativeText h = false≢true (among_true (next_parts OfNegativeText) InHead h)
never_inside OfEnd h = false≢true (among_true (next_parts OfEnd) InHead h)

-- the tokens of which a tokens line tells are known
module _ (file : File) (lines : List Line) (tokens : List ℕ) where
  pub told_now : (p : Part) → Contains (next_parts p) (tokens_part p) → HasTold file lines p tokens → IsTold file lines p tokens
  told_now InHead h t = absurd (false≢true (among_true (next_parts InHead) OfCaseTokens h))
  told_now OfCase h t = absurd (false≢true (among_true (next_parts OfCase) OfCaseTokens h))
  told_now OfDerivation h t = t
  told_now OfCaseTokens h t = absurd (false≢true (among_true (next_parts OfCaseTokens) OfCaseTokens h))
  told_now OfCaseText h t = absurd (false≢true (among_true (next_parts OfCaseText) OfCaseTokens h))
  told_now OfGoal h t = absurd (false≢true (among_true (next_parts OfGoal) OfCaseTokens h))
  told_now OfBase h t = absurd (false≢true (among_true (next_parts OfBase) OfCaseTokens h))
  told_now OfNegative h t = t
  told_now OfNegativeTokens h t = absurd (false≢true (among_true (next_parts OfNegativeTokens) OfCaseTokens h))
  told_now OfNegativeText h t = absurd (false≢true (among_true (next_parts OfNegativeText) OfCaseTokens h))
  told_now OfEnd h t = absurd (false≢true (among_true (next_parts OfEnd) OfCaseTokens h))

  -- and those of which a text line does
  pub told_then : (p : Part) → Contains (next_parts p) (text_part p) → HasTold file lines p tokens → IsTold file lines p tokens
  told_then InHead h t = absurd (false≢true (among_true (next_parts InHead) OfCaseText h))
  told_then OfCase h t = absurd (false≢true (among_true (next_parts OfCase) OfCaseText h))
  told_then OfDerivation h t = absurd (false≢true (among_true (next_parts OfDerivation) OfCaseText h))
  told_then OfCaseTokens h t = t
  told_then OfCaseText h t = absurd (false≢true (among_true (next_parts OfCaseText) OfCaseText h))
  told_then OfGoal h t = absurd (false≢true (among_true (next_parts OfGoal) OfCaseText h))
  told_then OfBase h t = absurd (false≢true (among_true (next_parts OfBase) OfCaseText h))
  told_then OfNegative h t = absurd (false≢true (among_true (next_parts OfNegative) OfCaseText h))
  told_then OfNegativeTokens h t = t
  told_then OfNegativeText h t = absurd (false≢true (among_true (next_parts OfNegativeText) OfCaseText h))
  told_then OfEnd h t = absurd (false≢true (among_true (next_parts OfEnd) OfCaseText h))

-- no case line stands behind another
not_twice : (p : Part) → Contains (next_parts p) OfCase → p ≡ OfCase → ⊥
not_twice p h is = false≢true (among_true (next_parts OfCase) OfCase (subst (λ (q : Part). Contains (next_parts q) OfCase) is h))

pub plain_sizes : (p : Part) (sizes : List ℕ) (cases : List PlainCase) (read : ℕ) → (p ≡ OfCase → ⊥) → AreSized p sizes cases read → sizes ≡ sizes_of cases
plain_sizes InHead sizes cases read other h = h
plain_sizes OfCase sizes cases read other h = absurd (other refl)
plain_sizes OfDerivation sizes cases read other h = h
plain_sizes OfCaseTokens sizes cases read other h = h
plain_sizes OfCaseText sizes cases read other h = h
plain_sizes OfGoal sizes cases read other h = h
plain_sizes OfBase sizes cases read other h = h
plain_sizes OfNegative sizes cases read other h = h
plain_sizes OfNegativeTokens sizes cases read other h = h
plain_sizes OfNegativeText sizes cases read other h = h
plain_sizes OfEnd sizes cases read other h = h

-- ---- a case line

module _ (file : File) (lines : List Line) (e : Entries) (t : AreEntries file lines e) where
  pub case_taken : (n s k r : ℕ) → Contains (next_parts (last_part lines)) OfCase → IsRead s r → k ≡ e.counts.cases + 1 → length lines + 1 < 4294967296 → AreEntries file (lines ++ CaseLine n s ∷ []) (record e { counts = record e.counts { cases = k }; size = r })
  case_taken n s k r follows read count few =
      let l : Line = CaseLine n s in
      let lines' = lines ++ l ∷ [] in
      let long = length-append lines (l ∷ []) in
      let rules_same = kept derivation_in lines l refl in
      let verdicts_same = kept verdict_in lines l refl in
      let goals_same = kept goal_in lines l refl in
      let bases_same = kept base_in lines l refl in
      let edits_same = kept edit_in lines l refl in
      let sizes_more = added size_in lines l s refl in
      let before = plain_sizes (last_part lines) (case_sizes lines) e.cases.list e.size (not_twice (last_part lines) follows) t.sizes in
      let part = last_part_more lines l in
      record {
        few = omega arith;
        grammar = t.grammar;
        rules = t.rules ∙ sym rules_same;
        sizes =
            subst (λ (p : Part). AreSized p (case_sizes lines') e.cases.list r) (sym part)
            (s, sizes_more ∙ ap (λ (x : List ℕ). x ++ s ∷ []) before, read);
        small = t.small;
        verdicts = subst (λ (v : List VerdictWords). AllZip IsCaseOf v e.goal_cases.items) (sym verdicts_same) t.verdicts;
        shown = t.shown;
        due = subst (λ (w : List GoalWords). KnowsGoals file.grammar w e.due) (sym goals_same) t.due;
        told = subst (λ (p : Part). HasTold file lines' p e.tokens.items) (sym part) tt;
        bases = t.bases ∙ sym (ap (λ (x : List ℕ). length x) bases_same);
        base = subst (λ (p : Part). HasBase file.grammar lines' p e.base.items) (sym part) tt;
        counts =
            counts_with lines lines' e.counts t.counts goals_same verdicts_same e.counts.negatives k
            (t.counts.negatives ∙ sym (ap (λ (x : List EditWords). length x) edits_same))
            (count ∙ ap (λ (i : ℕ). i + 1) t.counts.cases ∙ sym (ap (λ (x : List ℕ). length x) sizes_more ∙ length_push (case_sizes lines) s));
      }

-- no more is told of a kind than there are lines
pub few_told : {X : Type 0} (in_line : Line → Option X) (lines : List Line) → length (filter_map in_line lines) ≤ length lines
few_told in_line [] = omega arith
few_told {X} in_line (l ∷ lines) = one_more (in_line l) (few_told in_line lines)
  where
    one_more : (o : Option X) → length (filter_map in_line lines) ≤ length lines → length (cons_option o (filter_map in_line lines)) ≤ length (l ∷ lines)
    one_more None h = omega arith
    one_more (Some x) h = omega arith
