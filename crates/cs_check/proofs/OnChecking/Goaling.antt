-- Goal lines.
use Rattle.std.proofs.Common.{◌≡◌, ℕ, ◌+◌, ◌-◌, ◌<◌, ◌≤◌, ◌↔◌, List, [], ◌∷◌, ◌++◌, Option, Some, None, length, map, refl, sym, ap, ◌∙◌, subst, arith}
use Rattle.std.specs.Prelude.{All, slice_get}
use Rattle.std.specs.Global.{Vec}
use Rattle.std.specs.List.{AllZip, Contains}
use Rattle.std.specs.Option.{option_map}
use Rattle.std.proofs.lemmas.Bool.{false≢true}
use Rattle.std.proofs.lemmas.Option.{slice_get-map, slice_get_within}
use Rattle.std.proofs.lemmas.List.{length-append}
use Rattle.std.proofs.lemmas.List.Elements.{All-push}
use Rattle.cs_grammar.specs.Grammar.{PlainGrammar}
use Rattle.cs_goals.specs.declared.goal.Goal.{Goal}
use Rattle.cs_goals.specs.Meets.{IsMeeting}
use Rattle.cs_yacc.specs.Reading.File.{File}
use Rattle.cs_lines.specs.declared.lines.line.Counts as held
use Rattle.cs_lines.specs.declared.lines.line.Verdict as held_verdicts
use Rattle.cs_lines.specs.declared.lines.line.Verdict.TheVariants as told_verdicts
use Rattle.cs_lines.specs.Lines.Line.{GoalWords, VerdictWords, Feasible, Infeasible, Large, Line, GoalLine}
use Rattle.cs_lines.specs.Lines.Numbers.{IsRead}
use Rattle.cs_lines.specs.Lines.Read.{TellsVerdict}
use Rattle.cs_check.specs.declared.checking.entries.Entries.{Entries}
use Rattle.cs_check.specs.declared.checking.goals.DueGoals.{DueGoals}
use Rattle.cs_check.specs.declared.passing.fault.ClaimFault.{ClaimFault}
use Rattle.cs_check.specs.declared.passing.fault.ClaimFault.TheVariants as faults
use Rattle.cs_check.specs.Passing.Above.{size_in, derivation_in, goal_in, verdict_in, base_in, case_sizes, derivations, goals_in, verdicts}
use Rattle.cs_check.specs.Passing.Places.{Part, OfCase, OfGoal, last_part, next_parts}
use Rattle.cs_check.specs.Passing.Goals.{IsDue}
use Rattle.cs_check.specs.Passing.Entries.{IsNumbered, IsMetBy, IsShown, IsExcluded}
use Rattle.cs_check.specs.Passing.DueGoals.{KnowsGoals}
use Rattle.cs_check.specs.Passing.Faults.{HasCases, HasGoal, HasExcluded}
use Rattle.cs_check.specs.Checking.Cases.{PlainCase, PlainCases, Meets, Shows}
use Rattle.cs_check.specs.Checking.Told.{sizes_of, rules_of, AreSized, IsCaseOf, HasTold, HasBase, AreCounts, AreEntries}
use Rattle.cs_check.specs.Checking.Verdicts.{case_in, IsExcludedIf, IsVerdictJudged, AreCasesIn, IsGoalJudged}
use Rattle.cs_check.proofs.OnChecking.Told.{kept, added, last_part_more, among_true, plain_sizes, few_told}

-- ---- what a goal line shows, by the cases and by the lines

module _ {A B : Type 0} (f : A → B) where
  mapped : (o : Option A) (b : B) → option_map f o ≡ Some b → (a : A) × (o ≡ Some a) × (b ≡ f a)
  mapped None b e = absurd cc
  mapped (Some a) b e = (a, refl, cc)

  -- an entry of a list that was mapped
  numbered_from : (list : List A) (n : ℕ) (b : B) → IsNumbered (map f list) n b → (a : A) × IsNumbered list n a × (b ≡ f a)
  numbered_from list n b h =
      let m = mapped (slice_get list (n - 1)) b (sym (slice_get-map f list (n - 1)) ∙ h.1) in
      (m.0, (h.0, m.1), m.2)

  numbered_to : (list : List A) (n : ℕ) (a : A) → IsNumbered list n a → IsNumbered (map f list) n (f a)
  numbered_to list n a h = (h.0, slice_get-map f list (n - 1) ∙ ap (option_map f) h.1)

module _ (g : PlainGrammar) (lines : List Line) (list : List PlainCase) (rules_are : rules_of list ≡ derivations lines) (goal : Goal) where
  meets_is : (n : ℕ) → Meets g list goal n ↔ IsMetBy g lines goal n
  meets_is n = (
    λ h. (h.0.rules, subst (λ (l : List (List ℕ)). IsNumbered l n h.0.rules) rules_are (numbered_to (λ (c : PlainCase). c.rules) list n h.0 h.1), h.2),
    λ h.
        let from = numbered_from (λ (c : PlainCase). c.rules) list n h.0 (subst (λ (l : List (List ℕ)). IsNumbered l n h.0) (sym rules_are) h.1) in
        (from.0, from.1, subst (λ (r : List ℕ). IsMeeting g goal r) from.2 h.2),
  )

  shown_is : (sizes_are : case_sizes lines ≡ sizes_of list) (s n f : ℕ) → Shows g list goal s n f ↔ IsShown g lines goal s n f
  shown_is sizes_are s n f = (
    λ h. record {
      sized =
          subst (λ (l : List ℕ). IsNumbered l n s) (sym sizes_are)
          (subst (λ (k : ℕ). IsNumbered (sizes_of list) n k) (sym h.sized) (numbered_to (λ (c : PlainCase). c.size) list n h.case h.numbered));
      met = (meets_is n).0 h.met;
      met_first = (meets_is f).0 h.met_first;
    },
    λ h.
        let from = numbered_from (λ (c : PlainCase). c.size) list n s (subst (λ (l : List ℕ). IsNumbered l n s) sizes_are h.sized) in
        record { case = from.0; numbered = from.1; sized = from.2; met = (meets_is n).1 h.met; met_first = (meets_is f).1 h.met_first },
  )

-- ---- a verdict

module _ (file : File) (lines : List Line) (goal : Goal) where
  module _ (cases : PlainCases) (known : AreCasesIn file lines cases) (s c f : ℕ) where
    pub feasible_right : ((size case first : ℕ) → IsRead size s → IsRead case c → IsRead first f → Shows cases.grammar cases.list goal size case first) → (v : VerdictWords) → TellsVerdict (told_verdicts.Feasible s c f) v → IsVerdictJudged file lines goal v None
    feasible_right shows (Feasible size case first) t = (
      subst (λ (g : PlainGrammar). IsShown g lines goal size case first) known.grammar
          ((shown_is cases.grammar lines cases.list known.rules goal known.sizes size case first).0 (shows size case first t.0 t.1 t.2)),
      tt,
    )
    feasible_right shows Infeasible t = absurd t
    feasible_right shows Large t = absurd t

    pub feasible_wrong : ((size case first : ℕ) → IsRead size s → IsRead case c → IsRead first f → Shows cases.grammar cases.list goal size case first → ⊥) → (v : VerdictWords) → TellsVerdict (told_verdicts.Feasible s c f) v → IsVerdictJudged file lines goal v (Some faults.Goal)
    feasible_wrong none (Feasible size case first) t = λ h.
        none size case first t.0 t.1 t.2
        ((shown_is cases.grammar lines cases.list known.rules goal known.sizes size case first).1
        (subst (λ (g : PlainGrammar). IsShown g lines goal size case first) (sym known.grammar) h))
    feasible_wrong none Infeasible t = absurd t
    feasible_wrong none Large t = absurd t

  pub infeasible_right : IsExcluded file lines goal → (v : VerdictWords) → TellsVerdict told_verdicts.Infeasible v → IsVerdictJudged file lines goal v None
  infeasible_right is (Feasible size case first) t = absurd t
  infeasible_right is Infeasible t = (tt, is)
  infeasible_right is Large t = absurd t

  pub infeasible_wrong : (IsExcluded file lines goal → ⊥) → (v : VerdictWords) → TellsVerdict told_verdicts.Infeasible v → IsVerdictJudged file lines goal v (Some faults.Infeasible)
  infeasible_wrong other (Feasible size case first) t = absurd t
  infeasible_wrong other Infeasible t = (tt, other)
  infeasible_wrong other Large t = absurd t

  pub large_right : (v : VerdictWords) → TellsVerdict told_verdicts.Large v → IsVerdictJudged file lines goal v None
  large_right (Feasible size case first) t = absurd t
  large_right Infeasible t = absurd t
  large_right Large t = (tt, tt)

  -- the number of a goal's case is read as it is
  pub case_is : (t : held_verdicts.Verdict) (v : VerdictWords) → TellsVerdict t v → length lines < 4294967296 → HasCases file.grammar lines v goal → IsCaseOf v (case_in t)
  case_is (told_verdicts.Feasible s c f) (Feasible size case first) t few has =
      let low = slice_get_within (derivations lines) (case - 1) has.met.0 has.met.1.1 in
      let some = has.met.1.0 in
      let told = few_told derivation_in lines in
      let read = t.1 in
      (omega arith, some)
  case_is (told_verdicts.Feasible s c f) Infeasible t few has = absurd t
  case_is (told_verdicts.Feasible s c f) Large t few has = absurd t
  case_is told_verdicts.Infeasible (Feasible size case first) t few has = absurd t
  case_is told_verdicts.Infeasible Infeasible t few has = refl
  case_is told_verdicts.Infeasible Large t few has = absurd t
  case_is told_verdicts.Large (Feasible size case first) t few has = absurd t
  case_is told_verdicts.Large Infeasible t few has = absurd t
  case_is told_verdicts.Large Large t few has = refl

-- ---- the goal that is due

one_due : (file : File) (above : List GoalWords) (w : GoalWords) (a b : Goal) → IsDue file above w a → IsDue file above w b → a ≡ b
one_due file above w a b h k = let e : Some a ≡ Some b = sym h.next ∙ k.next in cc

module _ (file : File) (lines : List Line) (n : ℕ) (w : GoalWords) (goal : Goal) (due : IsDue file (goals_in lines) w goal) where
  pub excluded_right : (v : VerdictWords) → IsExcludedIf file lines v goal → HasExcluded file lines (GoalLine n w v)
  excluded_right (Feasible size case first) is = tt
  excluded_right Infeasible is = (goal, due, is)
  excluded_right Large is = tt

  excluded_wrong : (v : VerdictWords) → (IsExcludedIf file lines v goal → ⊥) → HasExcluded file lines (GoalLine n w v) → ⊥
  excluded_wrong (Feasible size case first) other h = other tt
  excluded_wrong Infeasible other h =
      other (subst (λ (x : Goal). IsExcluded file lines x) (one_due file (goals_in lines) w h.0 goal h.1 due) h.2)
  excluded_wrong Large other h = other tt

  goal_wrong : (v : VerdictWords) → (HasCases file.grammar lines v goal → ⊥) → HasGoal file lines (GoalLine n w v) → ⊥
  goal_wrong v other h =
      other (subst (λ (x : Goal). HasCases file.grammar lines v x) (one_due file (goals_in lines) w h.0 goal h.1 due) h.2)

  -- a fault of the verdict is one of the line
  pub verdict_wrong : (new : Entries) (v : VerdictWords) (f : ClaimFault) → IsVerdictJudged file lines goal v (Some f) → IsGoalJudged file lines n w v new (Some f)
  verdict_wrong new v faults.Form h = absurd h
  verdict_wrong new v faults.Head h = absurd h
  verdict_wrong new v faults.Unclosed h = absurd h
  verdict_wrong new v faults.Derive h = absurd h
  verdict_wrong new v faults.Size h = absurd h
  verdict_wrong new v faults.Yield h = absurd h
  verdict_wrong new v faults.Scan h = absurd h
  verdict_wrong new v faults.Goal h = goal_wrong v h
  verdict_wrong new v faults.Infeasible h = ((goal, due, h.0), excluded_wrong v h.1)
  verdict_wrong new v faults.Base h = absurd h
  verdict_wrong new v faults.Edit h = absurd h
  verdict_wrong new v faults.Pair h = absurd h
  verdict_wrong new v faults.Totals h = absurd h

-- ---- a goal line

zip_push : {A B : Type 0} (R : A → B → Type 0) (xs : List A) (ys : List B) (x : A) (y : B) → AllZip R xs ys → R x y → AllZip R (xs ++ x ∷ []) (ys ++ y ∷ [])
zip_push R [] [] x y h r = (r, tt)
zip_push R [] (b ∷ ys) x y h r = absurd h
zip_push R (a ∷ xs) [] x y h r = absurd h
zip_push R (a ∷ xs) (b ∷ ys) x y h r = (h.0, zip_push R xs ys x y h.1 r)

not_behind_case : (p : Part) → Contains (next_parts p) OfGoal → p ≡ OfCase → ⊥
not_behind_case p h same =
    false≢true (among_true (next_parts OfCase) OfGoal (subst (λ (q : Part). Contains (next_parts q) OfGoal) same h))

module _ (file : File) (lines : List Line) (e : Entries) (t : AreEntries file lines e) (follows : Contains (next_parts (last_part lines)) OfGoal) where
  sizes_now : case_sizes lines ≡ sizes_of e.cases.list
  sizes_now =
      plain_sizes (last_part lines) (case_sizes lines) e.cases.list e.size (not_behind_case (last_part lines) follows) t.sizes

  -- what was told of cases is known
  pub cases_known : AreCasesIn file lines e.cases
  cases_known = record { grammar = t.grammar; rules = t.rules; sizes = sizes_now; small = t.small }

  pub goal_taken : (n : ℕ) (w : GoalWords) (v : VerdictWords) (due : DueGoals) (goal_cases : Vec ℕ) (case : ℕ) (counts : held.Counts) → length lines + 1 < 4294967296 → KnowsGoals file.grammar (goals_in lines ++ w ∷ []) due → goal_cases.items ≡ e.goal_cases.items ++ case ∷ [] → IsCaseOf v case → case ≤ length e.cases.list → AreCounts (lines ++ GoalLine n w v ∷ []) counts → AreEntries file (lines ++ GoalLine n w v ∷ []) (record e { due = due; goal_cases = goal_cases; counts = counts })
  goal_taken n w v due goal_cases case counts few knows cases_are is low counted =
      let l : Line = GoalLine n w v in
      let lines' = lines ++ l ∷ [] in
      let long = length-append lines (l ∷ []) in
      let rules_same = kept derivation_in lines l refl in
      let bases_same = kept base_in lines l refl in
      let sizes_same = kept size_in lines l refl in
      let goals_more = added goal_in lines l w refl in
      let verdicts_more = added verdict_in lines l v refl in
      let part = last_part_more lines l in
      record {
        few = omega arith;
        grammar = t.grammar;
        rules = t.rules ∙ sym rules_same;
        sizes =
            subst (λ (p : Part). AreSized p (case_sizes lines') e.cases.list e.size) (sym part) (sizes_same ∙ sizes_now);
        small = t.small;
        verdicts =
            subst (λ (x : List VerdictWords). AllZip IsCaseOf x goal_cases.items) (sym verdicts_more)
            (subst (λ (x : List ℕ). AllZip IsCaseOf (verdicts lines ++ v ∷ []) x) (sym cases_are)
            (zip_push IsCaseOf (verdicts lines) e.goal_cases.items v case t.verdicts is));
        shown =
            subst (λ (x : List ℕ). All (λ (number : ℕ). number ≤ length e.cases.list) x) (sym cases_are)
            (All-push (λ (number : ℕ). number ≤ length e.cases.list) e.goal_cases.items case t.shown low);
        due = subst (λ (x : List GoalWords). KnowsGoals file.grammar x due) (sym goals_more) knows;
        told = subst (λ (p : Part). HasTold file lines' p e.tokens.items) (sym part) tt;
        bases = t.bases ∙ sym (ap (λ (x : List ℕ). length x) bases_same);
        base = subst (λ (p : Part). HasBase file.grammar lines' p e.base.items) (sym part) tt;
        counts = counted;
      }
