-- Goals, their cases and their lines, counted.
use Rattle.std.proofs.Common.{◌≡◌, ℕ, ◌+◌, ◌-◌, ◌^◌, ◌≤◌, Bool, true, false, List, [], ◌∷◌, ◌++◌, length, length-append, refl, sym, ap, ◌∙◌, subst, arith}
use Rattle.std.specs.Prelude.{count_by, if◌then◌else◌, IfSome, Option, None, Some, option_map}
use Rattle.std.proofs.lemmas.List.Sums.{count_by-le-length, sum_by-append, sum_by-cons}
use Rattle.cs_io.specs.Faults.{greatest}
use Rattle.cs_manifest.specs.Output.Putting.{shown}
use Rattle.cs_manifest.specs.declared.manifest.counts.Counts.{Counts}
use Rattle.cs_manifest.specs.Manifest.Counts.{next_if, with_verdict}
use Rattle.cs_manifest.specs.Manifest.Lines.{is_feasible, is_infeasible, is_large}
use Rattle.cs_manifest.specs.Manifest.Manifest.{GoalEntry}
use Rattle.cs_verdicts.specs.declared.positive.verdict.Verdict.{Verdict}
use Rattle.cs_writing.specs.Writing.Written.{AreCounted, AreWithin}
use Rattle.cs_writing.proofs.OnWriting.Tallies.{sums}

more_cases : (k m n : ℕ) (cases : Option ℕ) → k ≡ m + n → option_map (λ x. x + n) (option_map (λ x. x + m) cases) ≡ option_map (λ x. x + k) cases
more_cases k m n None is = refl
more_cases k m n (Some x) is = let e : x + m + n ≡ x + k = omega (arith, is) in ap (λ (y : ℕ). Some y) e

pub same_cases : (cases : Option ℕ) → cases ≡ option_map (λ x. x + 0) cases
same_cases None = refl
same_cases (Some x) = let e : x ≡ x + 0 = omega arith in ap (λ (y : ℕ). Some y) e

-- nothing
pub goals_none : (c : Counts) → AreCounted [] 0 [] c c
goals_none c = record {
  goals = omega arith;
  feasible = omega arith;
  infeasible = omega arith;
  large = omega arith;
  negatives = refl;
  cases = same_cases c.cases;
  bytes = let e : c.bytes ≡ c.bytes + 0 = omega arith in ap shown e;
}

-- entries, and more behind them
pub goals_then : (xs ys : List GoalEntry) (k m n : ℕ) (first second : List ℕ) (a b c : Counts) → k ≡ m + n → AreCounted xs m first a b → AreCounted ys n second b c → AreCounted (xs ++ ys) k (first ++ second) a c
goals_then xs ys k m n first second a b c is ab bc =
    record {
      goals = omega (arith, ab.goals, bc.goals, length-append xs ys);
      feasible = omega (arith, ab.feasible, bc.feasible, many (λ (e : GoalEntry). is_feasible e.verdict));
      infeasible = omega (arith, ab.infeasible, bc.infeasible, many (λ (e : GoalEntry). is_infeasible e.verdict));
      large = omega (arith, ab.large, bc.large, many (λ (e : GoalEntry). is_large e.verdict));
      negatives = bc.negatives ∙ ab.negatives;
      cases = bc.cases ∙ ap (λ (o : Option ℕ). option_map (λ x. x + n) o) ab.cases ∙ more_cases k m n a.cases is;
      bytes = sums (2 ^ 128 - 1) a.bytes b.bytes c.bytes (length first) (length second) ab.bytes bc.bytes
          ∙ ap (λ (l : ℕ). shown (a.bytes + l)) (sym (length-append first second));
    }
  where
    many : (p : GoalEntry → Bool) → count_by p (xs ++ ys) ≡ count_by p xs + count_by p ys
    many p = sum_by-append (λ (e : GoalEntry). if p e then 1 else 0) xs ys

-- the same, where the entries and the lines are told whole
pub goals_step : (xs ys whole : List GoalEntry) (k m n : ℕ) (first second lines : List ℕ) (a b c : Counts) → whole ≡ xs ++ ys → lines ≡ first ++ second → k ≡ m + n
    → AreCounted xs m first a b → AreCounted ys n second b c → AreCounted whole k lines a c
goals_step xs ys whole k m n first second lines a b c entries_are lines_are is ab bc =
    subst (λ (es : List GoalEntry). AreCounted es k lines a c) (sym entries_are)
    (subst (λ (l : List ℕ). AreCounted (xs ++ ys) k l a c) (sym lines_are) (goals_then xs ys k m n first second a b c is ab bc))

-- ---- one entry

one_more : (b : Bool) (n : ℕ) → n + 1 ≤ greatest → next_if b n ≡ n + (if b then 1 else 0)
one_more true n few = omega (arith, few)
one_more false n few = omega arith

module _ (entry : GoalEntry) where
  alone : (p : GoalEntry → Bool) → count_by p (entry ∷ []) ≡ (if p entry then 1 else 0)
  alone p = sum_by-cons (λ (e : GoalEntry). if p e then 1 else 0) entry [] ∙ at (p entry)
    where
      at : (b : Bool) → (if b then 1 else 0) + 0 ≡ (if b then 1 else 0)
      at true = refl
      at false = refl

  -- an entry more, where no count stands still
  pub goal_counted : (number new : ℕ) (lines : List ℕ) (c mid after : Counts) → AreWithin number c → number + 1 ≤ greatest
      → mid ≡ record c { cases = option_map (λ n. n + new) c.cases; bytes = mid.bytes }
      → after ≡ record (with_verdict mid entry.verdict) { bytes = after.bytes } → shown after.bytes ≡ shown (c.bytes + length lines)
      → AreCounted (entry ∷ []) new lines c after
  goal_counted number new lines c mid after within few first second bytes = record {
    goals = ap (λ (x : Counts). x.goals) both ∙ omega (arith, few, within.goals);
    feasible = ap (λ (x : Counts). x.feasible) both ∙ one_more (is_feasible v) c.feasible (omega (arith, few, within.feasible)) ∙ ap (λ (n : ℕ). c.feasible + n) (sym (alone (λ e. is_feasible e.verdict)));
    infeasible = ap (λ (x : Counts). x.infeasible) both ∙ one_more (is_infeasible v) c.infeasible (omega (arith, few, within.infeasible)) ∙ ap (λ (n : ℕ). c.infeasible + n) (sym (alone (λ e. is_infeasible e.verdict)));
    large = ap (λ (x : Counts). x.large) both ∙ one_more (is_large v) c.large (omega (arith, few, within.large)) ∙ ap (λ (n : ℕ). c.large + n) (sym (alone (λ e. is_large e.verdict)));
    negatives = ap (λ (x : Counts). x.negatives) both;
    cases = ap (λ (x : Counts). x.cases) both;
    bytes = bytes;
  }
    where
      v : Verdict
      v = entry.verdict

      both : after ≡ record (with_verdict (record c { cases = option_map (λ n. n + new) c.cases; bytes = mid.bytes }) v) { bytes = after.bytes }
      both = second ∙ ap (λ (x : Counts). record (with_verdict x v) { bytes = after.bytes }) first

-- ---- counts that are small

some_few : (n m new number : ℕ) (cases more : Option ℕ) → more ≡ option_map (λ x. x + new) cases → new ≤ n → m ≡ number + n → IfSome cases (λ x. x ≤ number) → IfSome more (λ x. x ≤ m)
some_few n m new number None more is few sum within = subst (λ (o : Option ℕ). IfSome o (λ x. x ≤ m)) (sym is) tt
some_few n m new number (Some k) more is few sum within = subst (λ (o : Option ℕ). IfSome o (λ x. x ≤ m)) (sym is) (omega (arith, few, sum, within))

-- behind so many entries
pub within_more : (number m new : ℕ) (entries : List GoalEntry) (lines : List ℕ) (a b : Counts) → m ≡ number + length entries → new ≤ length entries → AreWithin number a → AreCounted entries new lines a b → AreWithin m b
within_more number m new entries lines a b sum few within counted = record {
  goals = omega (arith, sum, within.goals, counted.goals);
  feasible = omega (arith, sum, within.feasible, counted.feasible, count_by-le-length (λ (e : GoalEntry). is_feasible e.verdict) entries);
  infeasible = omega (arith, sum, within.infeasible, counted.infeasible, count_by-le-length (λ (e : GoalEntry). is_infeasible e.verdict) entries);
  large = omega (arith, sum, within.large, counted.large, count_by-le-length (λ (e : GoalEntry). is_large e.verdict) entries);
  cases = some_few (length entries) m new number a.cases b.cases counted.cases few sum within.cases;
}
