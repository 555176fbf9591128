-- Base lines and negative lines.
use Rattle.std.proofs.Common.{◌≡◌, ℕ, zero, suc, ◌+◌, ◌-◌, ◌<◌, ◌≤◌, false, List, [], ◌∷◌, ◌++◌, Option, Some, None, length, refl, sym, ap, ◌∙◌, subst, arith}
use Rattle.std.specs.Prelude.{IfSome, slice_get}
use Rattle.std.specs.Global.{Vec}
use Rattle.std.specs.List.{AllZip, Contains}
use Rattle.std.specs.Option.{option_map}
use Rattle.std.proofs.lemmas.Bool.{false≢true}
use Rattle.std.proofs.lemmas.Option.{slice_get_within, slice_get-map, get_or_from_slice_get}
use Rattle.std.proofs.lemmas.List.{length-append, length_push, length-map}
use Rattle.cs_grammar.specs.Grammar.{PlainGrammar}
use Rattle.cs_grammar.specs.Leftmost.{IsYield}
use Rattle.cs_grammar.specs.Sentence.{framed}
use Rattle.cs_grammar.specs.Tree.{Tree, IsTree, IsPrefixFree}
use Rattle.cs_grammar.specs.declared.symbol.Symbol.{Symbol}
use Rattle.cs_goals.specs.declared.goal.Goal.{Goal}
use Rattle.cs_yacc.specs.Reading.File.{File}
use Rattle.cs_lines.specs.Words.Edits.{EditWords, IsEdited, FitsList}
use Rattle.cs_lines.specs.Lines.Line.{GoalWords, VerdictWords, Feasible, Infeasible, Large, Line, BaseLine, NegativeLine}
use Rattle.cs_check.specs.declared.checking.entries.Entries.{Entries}
use Rattle.cs_check.specs.Passing.Above.{size_in, derivation_in, goal_in, verdict_in, base_in, edit_in, case_sizes, derivations, verdicts, base_goals, edits}
use Rattle.cs_check.specs.Passing.Places.{Part, InHead, OfCase, OfDerivation, OfCaseTokens, OfCaseText, OfGoal, OfBase, OfNegative, OfNegativeTokens, OfNegativeText, OfEnd, part_of, last_part, next_parts}
use Rattle.cs_check.specs.Passing.Entries.{IsNumbered, IsLast, HasCase, IsBase, IsMade, IsKeptApart}
use Rattle.cs_check.specs.Passing.DueGoals.{KnowsGoals}
use Rattle.cs_check.specs.Passing.Faults.{HasCases}
use Rattle.cs_check.specs.Checking.Cases.{PlainCase, IsPlaceOf}
use Rattle.cs_check.specs.Checking.Edits.{IsEditedIf}
use Rattle.cs_check.specs.Checking.Told.{rules_of, AreSized, IsCaseOf, HasTold, HasBase, AreEntries}
use Rattle.cs_check.specs.Checking.Negatives.{IsCasePlace}
use Rattle.cs_check.proofs.OnChecking.Told.{kept, added, counts_with, last_part_more, among_true, base_kept, plain_sizes}
use Rattle.cs_check.proofs.OnChecking.Once.{last_push, one_base, one_made}

-- ---- the case of a goal

module _ {A B : Type 0} (R : A → B → Type 0) where
  zip_back : (xs : List A) (ys : List B) (k : ℕ) (y : B) → AllZip R xs ys → slice_get ys k ≡ Some y → (x : A) × (slice_get xs k ≡ Some x) × R x y
  zip_back xs [] k y h at = absurd cc
  zip_back [] (b ∷ ys) k y h at = absurd h
  zip_back (a ∷ xs) (b ∷ ys) zero y h at = let same : b ≡ y = cc in (a, refl, subst (λ (z : B). R a z) same h.0)
  zip_back (a ∷ xs) (b ∷ ys) (suc k) y h at = zip_back xs ys k y h.1 at

  zip_on : (xs : List A) (ys : List B) (k : ℕ) (x : A) → AllZip R xs ys → slice_get xs k ≡ Some x → (y : B) × (slice_get ys k ≡ Some y) × R x y
  zip_on [] ys k x h at = absurd cc
  zip_on (a ∷ xs) [] k x h at = absurd h
  zip_on (a ∷ xs) (b ∷ ys) zero x h at = let same : a ≡ x = cc in (b, refl, subst (λ (z : A). R z b) same h.0)
  zip_on (a ∷ xs) (b ∷ ys) (suc k) x h at = zip_on xs ys k x h.1 at

feasible_of : (v : VerdictWords) (number : ℕ) → IsCaseOf v number → 0 < number → (size : ℕ) × (first : ℕ) × (v ≡ Feasible size number first)
feasible_of (Feasible size case first) number h more = (size, first, ap (λ (c : ℕ). Feasible size c first) (sym h.0))
feasible_of Infeasible number h more = absurd (omega arith)
feasible_of Large number h more = absurd (omega arith)

module _ (file : File) (lines : List Line) (e : Entries) (t : AreEntries file lines e) (goal : ℕ) where
  -- the goal's case is that whose number is told
  pub case_found : (number : ℕ) → 0 < goal → slice_get e.goal_cases.items (goal - 1) ≡ Some number → 0 < number → HasCase lines goal number
  case_found number low at more =
      let back = zip_back IsCaseOf (verdicts lines) e.goal_cases.items (goal - 1) number t.verdicts at in
      let is = feasible_of back.0 number back.2 more in
      (is.0, is.1, (low, back.1 ∙ ap Some is.2))

  -- and if a goal has one, it is told
  pub case_told : (case : ℕ) → HasCase lines goal case → (slice_get e.goal_cases.items (goal - 1) ≡ Some case) × (0 < case) × (case ≤ length e.cases.list)
  case_told case h =
      let on = zip_on IsCaseOf (verdicts lines) e.goal_cases.items (goal - 1) (Feasible h.0 case h.1) t.verdicts h.2.1 in
      let within = slice_get_within e.goal_cases.items (goal - 1) on.0 on.1 in
      let here = get_or_from_slice_get e.goal_cases.items (goal - 1) on.0 on.0 on.1 in
      let low = t.shown (goal - 1) on.0 within in
      let is = on.2.0 in
      (on.1 ∙ ap Some is, on.2.1, omega arith)

  pub place_is : (number : ℕ) → 0 < goal → slice_get e.goal_cases.items (goal - 1) ≡ Some number → (place : Option ℕ) → IsPlaceOf number (length e.cases.list) place → IsCasePlace lines goal place
  place_is number low at None never = λ case h.
      let told = case_told case h in
      let both : Some number ≡ Some case = sym at ∙ told.0 in
      let same : number ≡ case = cc in
      let more = told.1 in
      let within = told.2 in
      absurd (never (omega arith, omega arith))
  place_is number low at (Some place) is =
      let more : 0 < number = let same = is.0 in omega arith in
      subst (λ (n : ℕ). HasCase lines goal n) is.0 (case_found number low at more)

pub place_within : (number many : ℕ) (place : Option ℕ) → IsPlaceOf number many place → IfSome place (λ p. p < many)
place_within number many None is = tt
place_within number many (Some place) is = is.1

-- the case of a verdict that is so is one of those that were told
pub case_within : (file : File) (lines : List Line) (e : Entries) → AreEntries file lines e → (v : VerdictWords) (goal : Goal) (number : ℕ) → HasCases file.grammar lines v goal → IsCaseOf v number → number ≤ length e.cases.list
case_within file lines e t (Feasible size case first) goal number has is =
    let within = slice_get_within (derivations lines) (case - 1) has.met.0 has.met.1.1 in
    let long : length (derivations lines) ≡ length e.cases.list = ap (λ (l : List (List ℕ)). length l) (sym t.rules) ∙ length-map e.cases.list (λ (c : PlainCase). c.rules) in
    let same = is.0 in
    omega arith
case_within file lines e t Infeasible goal number has is = omega arith
case_within file lines e t Large goal number has is = omega arith

-- ---- a line that tells nothing of cases and goals

record TellsNoGoal (l : Line) : Type 0 where
  derivation : derivation_in l ≡ None
  verdict : verdict_in l ≡ None
  goal : goal_in l ≡ None
  size : size_in l ≡ None

module _ (file : File) (lines : List Line) (e : Entries) (t : AreEntries file lines e) (few : length lines + 1 < 4294967296) (l : Line) (tells : TellsNoGoal l) where
  entries_with : (tokens base : Vec ℕ) (bases negatives : ℕ) → AreSized (part_of (last_part lines) l) (case_sizes lines) e.cases.list e.size → HasTold file (lines ++ l ∷ []) (part_of (last_part lines) l) tokens.items → bases ≡ length (base_goals (lines ++ l ∷ [])) → HasBase file.grammar (lines ++ l ∷ []) (part_of (last_part lines) l) base.items → negatives ≡ length (edits (lines ++ l ∷ [])) → AreEntries file (lines ++ l ∷ []) (record e { tokens = tokens; base = base; bases = bases; counts = record e.counts { negatives = negatives } })
  entries_with tokens base bases negatives sized told many based counted =
      let lines' = lines ++ l ∷ [] in
      let long = length-append lines (l ∷ []) in
      let verdicts_same = kept verdict_in lines l tells.verdict in
      let goals_same = kept goal_in lines l tells.goal in
      let sizes_same = kept size_in lines l tells.size in
      let part = last_part_more lines l in
      record {
        few = omega arith;
        grammar = t.grammar;
        rules = t.rules ∙ sym (kept derivation_in lines l tells.derivation);
        sizes =
            subst (λ (p : Part). AreSized p (case_sizes lines') e.cases.list e.size) (sym part)
            (subst (λ (s : List ℕ). AreSized (part_of (last_part lines) l) s e.cases.list e.size) (sym sizes_same) sized);
        small = t.small;
        verdicts = subst (λ (v : List VerdictWords). AllZip IsCaseOf v e.goal_cases.items) (sym verdicts_same) t.verdicts;
        shown = t.shown;
        due = subst (λ (x : List GoalWords). KnowsGoals file.grammar x e.due) (sym goals_same) t.due;
        told = subst (λ (p : Part). HasTold file lines' p tokens.items) (sym part) told;
        bases = many;
        base = subst (λ (p : Part). HasBase file.grammar lines' p base.items) (sym part) based;
        counts =
            counts_with lines lines' e.counts t.counts goals_same verdicts_same negatives e.counts.cases counted
            (t.counts.cases ∙ sym (ap (λ (x : List ℕ). length x) sizes_same));
      }

-- ---- a base line

module _ (p : Part) where
  no_case_before : (q : Part) → Contains (next_parts p) q → (Contains (next_parts OfCase) q → ⊥) → p ≡ OfCase → ⊥
  no_case_before q h never is = never (subst (λ (r : Part). Contains (next_parts r) q) is h)

base_behind_case : Contains (next_parts OfCase) OfBase → ⊥
base_behind_case h = false≢true (among_true (next_parts OfCase) OfBase h)

negative_behind_case : Contains (next_parts OfCase) OfNegative → ⊥
negative_behind_case h = false≢true (among_true (next_parts OfCase) OfNegative h)

module _ (file : File) (lines : List Line) (e : Entries) (t : AreEntries file lines e) (few : length lines + 1 < 4294967296) where
  module _ (n goal number place : ℕ) (has : HasCase lines goal number) (is : number ≡ place + 1) (case : PlainCase) (at : slice_get e.cases.list place ≡ Some case) (tokens : Vec ℕ) (yields : IsYield e.cases.grammar case.rules tokens.items) where
    based : (lines' : List Line) → derivations lines' ≡ derivations lines → verdicts lines' ≡ verdicts lines → base_goals lines' ≡ base_goals lines ++ goal ∷ [] → IsBase file.grammar lines' tokens.items
    based lines' rules_same verdicts_same bases_more = record {
      goal = goal;
      case = number;
      rules = case.rules;
      is_goal = subst (λ (l : List ℕ). IsLast l goal) (sym bases_more) (last_push (base_goals lines) goal);
      has_case = (
        has.0,
        has.1,
        subst (λ (l : List VerdictWords). IsNumbered l goal (Feasible has.0 number has.1)) (sym verdicts_same) has.2,
      );
      derived =
          let back : number - 1 ≡ place = omega arith in
          subst (λ (l : List (List ℕ)). IsNumbered l number case.rules) (sym rules_same)
          (subst (λ (l : List (List ℕ)). IsNumbered l number case.rules) t.rules (
            omega arith,
            ap (slice_get (rules_of e.cases.list)) back
                ∙ slice_get-map (λ (c : PlainCase). c.rules) e.cases.list place
                ∙ ap (option_map (λ (c : PlainCase). c.rules)) at,
          ));
      yields = subst (λ (g : PlainGrammar). IsYield g case.rules tokens.items) t.grammar yields;
    }

    pub base_taken : (k : ℕ) → Contains (next_parts (last_part lines)) OfBase → k ≡ e.bases + 1 → AreEntries file (lines ++ BaseLine n goal ∷ []) (record e { base = tokens; bases = k })
    base_taken k follows count =
        let l : Line = BaseLine n goal in
        let lines' = lines ++ l ∷ [] in
        let rules_same = kept derivation_in lines l refl in
        let verdicts_same = kept verdict_in lines l refl in
        let bases_more = added base_in lines l goal refl in
        let edits_same = kept edit_in lines l refl in
        entries_with file lines e t few l (record { derivation = refl; verdict = refl; goal = refl; size = refl }) e.tokens tokens k e.counts.negatives
        (plain_sizes (last_part lines) (case_sizes lines) e.cases.list e.size (no_case_before (last_part lines) OfBase follows base_behind_case) t.sizes)
        tt
        (count ∙ ap (λ (i : ℕ). i + 1) t.bases ∙ sym (ap (λ (x : List ℕ). length x) bases_more ∙ length_push (base_goals lines) goal))
        (based lines' rules_same verdicts_same bases_more)
        (t.counts.negatives ∙ sym (ap (λ (x : List EditWords). length x) edits_same))

  -- ---- a negative line

  -- the last base is known where one may come
  base_now : (p : Part) → Contains (next_parts p) OfNegative → HasBase file.grammar lines p e.base.items → IsBase file.grammar lines e.base.items
  base_now InHead h b = absurd (false≢true (among_true (next_parts InHead) OfNegative h))
  base_now OfCase h b = absurd (false≢true (among_true (next_parts OfCase) OfNegative h))
  base_now OfDerivation h b = absurd (false≢true (among_true (next_parts OfDerivation) OfNegative h))
  base_now OfCaseTokens h b = absurd (false≢true (among_true (next_parts OfCaseTokens) OfNegative h))
  base_now OfCaseText h b = absurd (false≢true (among_true (next_parts OfCaseText) OfNegative h))
  base_now OfGoal h b = absurd (false≢true (among_true (next_parts OfGoal) OfNegative h))
  base_now OfBase h b = b
  base_now OfNegative h b = b
  base_now OfNegativeTokens h b = b
  base_now OfNegativeText h b = b
  base_now OfEnd h b = absurd (false≢true (among_true (next_parts OfEnd) OfNegative h))

  module _ (follows : Contains (next_parts (last_part lines)) OfNegative) where
    pub base_known : IsBase file.grammar lines e.base.items
    base_known = base_now (last_part lines) follows t.base

    pub negative_taken : (n base at k : ℕ) (edit : EditWords) (left right : List ℕ) (tokens : Vec ℕ) → IsEdited file e.base.items edit tokens.items → k ≡ e.counts.negatives + 1 → AreEntries file (lines ++ NegativeLine n base edit left right at ∷ []) (record e { tokens = tokens; counts = record e.counts { negatives = k } })
    negative_taken n base at k edit left right tokens edited count =
        let l : Line = NegativeLine n base edit left right at in
        let lines' = lines ++ l ∷ [] in
        let bases_same = kept base_in lines l refl in
        let edits_more = added edit_in lines l edit refl in
        let base_then = base_kept file lines lines' (kept derivation_in lines l refl) (kept verdict_in lines l refl) bases_same e.base.items base_known in
        entries_with file lines e t few l (record { derivation = refl; verdict = refl; goal = refl; size = refl }) tokens e.base e.bases k
        (plain_sizes (last_part lines) (case_sizes lines) e.cases.list e.size (no_case_before (last_part lines) OfNegative follows negative_behind_case) t.sizes)
        (edit, subst (λ (x : List EditWords). IsLast x edit) (sym edits_more) (last_push (edits lines) edit), (e.base.items, base_then, edited))
        (t.bases ∙ sym (ap (λ (x : List ℕ). length x) bases_same))
        base_then
        (count ∙ ap (λ (i : ℕ). i + 1) t.counts.negatives ∙ sym (ap (λ (x : List EditWords). length x) edits_more ∙ length_push (edits lines) edit))

    module _ (one : (x : Symbol) (t : Tree) → IsTree file.grammar x t → IsPrefixFree file.grammar x t) (edit : EditWords) (tokens : List ℕ) where
      -- what doesn't fit the last base doesn't fit
      pub unfit : IsEditedIf false file e.base.items edit tokens → (w : List ℕ) → IsBase file.grammar lines w → FitsList file w edit → ⊥
      unfit never w is fits =
          never (subst (λ (x : List ℕ). FitsList file x edit) (one_base file.grammar one lines w e.base.items is base_known) fits)

      -- and what isn't kept apart in the edited list isn't
      pub together : IsEdited file e.base.items edit tokens → (at : ℕ) (left right : List ℕ) → (IsKeptApart file lines (framed tokens) at left right → ⊥) → (y : List ℕ) → IsMade file lines edit y → IsKeptApart file lines (framed y) at left right → ⊥
      together edited at left right never y made apart =
          let same = one_made file one lines edit y tokens made (e.base.items, base_known, edited) in
          never (subst (λ (x : List ℕ). IsKeptApart file lines (framed x) at left right) same apart)
