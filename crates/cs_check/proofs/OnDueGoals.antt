-- What is known of the goals above when one more of them is told.
use Rattle.std.proofs.Common.{◌≡◌, ℕ, zero, suc, ◌+◌, ◌<◌, ◌≤◌, inl, inr, Bool, true, false, List, [], ◌∷◌, ◌++◌, drop, length, refl, sym, ap, ◌∙◌, subst, Option, None, Some, arith, ⊎_elim}
use Rattle.std.specs.Prelude.{slice_get, count_by, cond, nat_lt, ◌==◌, not, is_some, IsTrue, IfNone, IfSome}
use Rattle.std.specs.List.{last_or}
use Rattle.cs_grammar.specs.Grammar.{PlainGrammar}
use Rattle.cs_goals.specs.declared.goal.Goal.{Goal}
use Rattle.cs_goals.specs.Goals.{goals, rule_goals, context_goals}
use Rattle.std.proofs.lemmas.List.{append-nil}
use Rattle.std.proofs.lemmas.List.Sums.{sum_by_push}
use Rattle.cs_check.specs.declared.checking.goals.Criterion.{Criterion}
use Rattle.cs_check.specs.declared.checking.goals.Criterion.TheVariants as criteria
use Rattle.cs_lines.specs.Lines.Line.{GoalWords, OfRule, OfContext, OfPair}
use Rattle.cs_check.specs.Passing.Goals.{criterion, is_of, list_of, told, last_goal, AreFinished, AreFinishedBehind, MayFollow}
use Rattle.cs_check.specs.declared.checking.goals.DueGoals.{DueGoals}
use Rattle.cs_check.specs.Passing.DueGoals.{number, criteria_of, is_last, is_later, left_of, IsBehind, IsNextOf, IsWithin, KnowsGoals, TellsLast}

-- ---- lists

module _ {A : Type 0} where
  pub first_dropped : (l : List A) (k : ℕ) (x : A) (rest : List A) → drop k l ≡ x ∷ rest → slice_get l k ≡ Some x
  first_dropped [] zero x rest e = absurd cc
  first_dropped [] (suc k) x rest e = absurd cc
  first_dropped (y ∷ l) zero x rest e = cc
  first_dropped (y ∷ l) (suc k) x rest e = first_dropped l k x rest e

  pub others_dropped : (l : List A) (k : ℕ) (x : A) (rest : List A) → drop k l ≡ x ∷ rest → rest ≡ drop (k + 1) l
  others_dropped [] zero x rest e = absurd cc
  others_dropped [] (suc k) x rest e = absurd cc
  others_dropped (y ∷ l) zero x rest e = cc
  others_dropped (y ∷ l) (suc k) x rest e = let more : suc (k + 1) ≡ suc k + 1 = omega arith in others_dropped l k x rest e ∙ ap (λ (n : ℕ). drop n (y ∷ l)) more

  pub within_dropped : (l : List A) (k : ℕ) (x : A) (rest : List A) → drop k l ≡ x ∷ rest → k + 1 ≤ length l
  within_dropped [] zero x rest e = absurd cc
  within_dropped [] (suc k) x rest e = absurd cc
  within_dropped (y ∷ l) zero x rest e = omega arith
  within_dropped (y ∷ l) (suc k) x rest e = omega (arith, within_dropped l k x rest e)

  pub none_dropped : (l : List A) (k : ℕ) → drop k l ≡ [] → length l ≤ k
  none_dropped [] k e = omega arith
  none_dropped (y ∷ l) zero e = absurd cc
  none_dropped (y ∷ l) (suc k) e = omega (arith, none_dropped l k e)

  pub all_dropped : (l : List A) (k : ℕ) → length l ≤ k → drop k l ≡ []
  all_dropped [] zero less = refl
  all_dropped [] (suc k) less = refl
  all_dropped (y ∷ l) zero less = absurd (omega (arith, less))
  all_dropped (y ∷ l) (suc k) less = all_dropped l k (omega (arith, less))

  pub got_dropped : (l : List A) (k : ℕ) (x : A) → slice_get l k ≡ Some x → k < length l
  got_dropped [] k x e = absurd cc
  got_dropped (y ∷ l) zero x e = omega arith
  got_dropped (y ∷ l) (suc k) x e = omega (arith, got_dropped l k x e)

  last_behind : (o : Option A) (xs : List A) (x : A) → last_or o (xs ++ x ∷ []) ≡ Some x
  last_behind o [] x = refl
  last_behind o (y ∷ xs) x = last_behind (Some y) xs x

pub last_told : (above : List GoalWords) (w : GoalWords) → last_goal (above ++ w ∷ []) ≡ Some w
last_told above w = last_behind None above w

-- ---- criteria

pub same_list : (g : PlainGrammar) (v w : GoalWords) → criterion v ≡ criterion w → list_of g v ≡ list_of g w
same_list g (OfRule r) (OfRule s) e = refl
same_list g (OfRule r) (OfContext p i q) e = absurd (omega (arith, e))
same_list g (OfRule r) (OfPair a b) e = absurd (omega (arith, e))
same_list g (OfContext p i q) (OfRule s) e = absurd (omega (arith, e))
same_list g (OfContext p i q) (OfContext u j v) e = refl
same_list g (OfContext p i q) (OfPair a b) e = absurd (omega (arith, e))
same_list g (OfPair a b) (OfRule s) e = absurd (omega (arith, e))
same_list g (OfPair a b) (OfContext p i q) e = absurd (omega (arith, e))
same_list g (OfPair a b) (OfPair c d) e = refl

pub same_told : (above : List GoalWords) (v w : GoalWords) → criterion v ≡ criterion w → told above v ≡ told above w
same_told above v w e = ap (λ (n : ℕ). count_by (is_of n) above) e

pub one_number : (c d : Criterion) → number c ≡ number d → c ≡ d
one_number criteria.Rule criteria.Rule e = refl
one_number criteria.Rule criteria.Cdrc e = absurd (omega (arith, e))
one_number criteria.Rule criteria.Pair e = absurd (omega (arith, e))
one_number criteria.Cdrc criteria.Rule e = absurd (omega (arith, e))
one_number criteria.Cdrc criteria.Cdrc e = refl
one_number criteria.Cdrc criteria.Pair e = absurd (omega (arith, e))
one_number criteria.Pair criteria.Rule e = absurd (omega (arith, e))
one_number criteria.Pair criteria.Cdrc e = absurd (omega (arith, e))
one_number criteria.Pair criteria.Pair e = refl

-- the goals of the criterion alone are its list
pub goals_of : (g : PlainGrammar) (c : Criterion) (w : GoalWords) → number c ≡ criterion w → goals g (criteria_of c) ≡ list_of g w
goals_of g criteria.Rule (OfRule r) e = append-nil (rule_goals g ++ []) ∙ append-nil (rule_goals g)
goals_of g criteria.Rule (OfContext p i q) e = absurd (omega (arith, e))
goals_of g criteria.Rule (OfPair a b) e = absurd (omega (arith, e))
goals_of g criteria.Cdrc (OfRule r) e = absurd (omega (arith, e))
goals_of g criteria.Cdrc (OfContext p i q) e = append-nil (context_goals g)
goals_of g criteria.Cdrc (OfPair a b) e = absurd (omega (arith, e))
goals_of g criteria.Pair (OfRule r) e = absurd (omega (arith, e))
goals_of g criteria.Pair (OfContext p i q) e = absurd (omega (arith, e))
goals_of g criteria.Pair (OfPair a b) e = refl

-- ---- how many goals of a criterion are told

-- what a goal adds to those of the criterion
abbrev counted : GoalWords → GoalWords → ℕ
counted v w = cond (is_of (criterion v) w) 1 0

counts_same : (v w : GoalWords) → criterion v ≡ criterion w → counted v w ≡ 1
counts_same (OfRule r) (OfRule s) e = refl
counts_same (OfRule r) (OfContext p i q) e = absurd (omega (arith, e))
counts_same (OfRule r) (OfPair a b) e = absurd (omega (arith, e))
counts_same (OfContext p i q) (OfRule s) e = absurd (omega (arith, e))
counts_same (OfContext p i q) (OfContext u j v) e = refl
counts_same (OfContext p i q) (OfPair a b) e = absurd (omega (arith, e))
counts_same (OfPair a b) (OfRule s) e = absurd (omega (arith, e))
counts_same (OfPair a b) (OfContext p i q) e = absurd (omega (arith, e))
counts_same (OfPair a b) (OfPair c d) e = refl

counts_other : (v w : GoalWords) → criterion w < criterion v → counted v w ≡ 0
counts_other (OfRule r) (OfRule s) less = absurd (omega (arith, less))
counts_other (OfRule r) (OfContext p i q) less = absurd (omega (arith, less))
counts_other (OfRule r) (OfPair a b) less = absurd (omega (arith, less))
counts_other (OfContext p i q) (OfRule s) less = refl
counts_other (OfContext p i q) (OfContext u j v) less = absurd (omega (arith, less))
counts_other (OfContext p i q) (OfPair a b) less = absurd (omega (arith, less))
counts_other (OfPair a b) (OfRule s) less = refl
counts_other (OfPair a b) (OfContext p i q) less = refl
counts_other (OfPair a b) (OfPair c d) less = absurd (omega (arith, less))

pub told_more : (above : List GoalWords) (v w : GoalWords) → criterion v ≡ criterion w → told (above ++ w ∷ []) v ≡ told above v + 1
told_more above v w e =
    sum_by_push (λ (x : GoalWords). cond (is_of (criterion v) x) 1 0) above w ∙ ap (λ (n : ℕ). told above v + n) (counts_same v w e)

pub told_still : (above : List GoalWords) (v w : GoalWords) → criterion w < criterion v → told (above ++ w ∷ []) v ≡ told above v
told_still above v w less =
    let more = sum_by_push (λ (x : GoalWords). cond (is_of (criterion v) x) 1 0) above w in
    let none = counts_other v w less in
    let still : told above v + 0 ≡ told above v = omega arith in
    more ∙ ap (λ (n : ℕ). told above v + n) none ∙ still

-- ---- what is known behind one more

-- of those before it stands none behind the last goal, or all of the last goal's list are told
pub record IsTaken (g : PlainGrammar) (above : List GoalWords) (w : GoalWords) (rest : List Goal) : Type 0 where
  pub last : last_goal (above ++ w ∷ []) ≡ Some w
  pub left : rest ≡ drop (told (above ++ w ∷ []) w) (list_of g w)
  pub within : told (above ++ w ∷ []) w ≤ length (list_of g w)

pub is_taken : (g : PlainGrammar) (above : List GoalWords) (w : GoalWords) (goal : Goal) (rest : List Goal) → drop (told above w) (list_of g w) ≡ goal ∷ rest → IsTaken g above w rest
is_taken g above w goal rest e =
    let more = told_more above w w refl in
    record {
      last = last_told above w;
      left = others_dropped (list_of g w) (told above w) goal rest e ∙ ap (λ (n : ℕ). drop n (list_of g w)) (sym more);
      within = omega (arith, more, within_dropped (list_of g w) (told above w) goal rest e);
    }

-- what the code knows then
pub knows_then : (g : PlainGrammar) (above : List GoalWords) (w : GoalWords) (rest : List Goal) (d : DueGoals) → IsTaken g above w rest → d.grammar.now ≡ g → d.left ≡ rest → TellsLast (Some w) d.last → ((v : GoalWords) → criterion w < criterion v → told above v ≡ 0) → KnowsGoals g (above ++ w ∷ []) d
knows_then g above w rest d taken grammar left last later = record {
  grammar = grammar;
  last = subst (λ (o : Option GoalWords). TellsLast o d.last) (sym taken.last) last;
  left = left ∙ taken.left ∙ ap (left_of g (above ++ w ∷ [])) (sym taken.last);
  within = subst (IsWithin g (above ++ w ∷ [])) (sym taken.last) taken.within;
  later = λ v behind.
      let less : criterion w < criterion v = subst (λ (o : Option GoalWords). IsBehind o v) taken.last behind in
      told_still above v w less ∙ later v less;
}

-- ---- whether the list of the last goal is at its end

finished_of : (g : PlainGrammar) (above : List GoalWords) (o : Option GoalWords) (left : List Goal) → left ≡ left_of g above o → IsWithin g above o → (left ≡ [] → AreFinishedBehind g above o) × (AreFinishedBehind g above o → left ≡ [])
finished_of g above None left e within = (λ none. tt, λ is. e)
finished_of g above (Some last) left e within = (
  λ none. let past = none_dropped (list_of g last) (told above last) (sym e ∙ none) in omega (arith, past, within),
  λ is. e ∙ all_dropped (list_of g last) (told above last) (omega (arith, is)),
)

pub finished_told : (g : PlainGrammar) (above : List GoalWords) (d : DueGoals) → KnowsGoals g above d → (next : Option Goal) (new : List Goal) (none : Bool) → IfSome next (λ goal. d.left ≡ goal ∷ new) → IfNone next ((d.left ≡ []) × (new ≡ [])) → is_some next ≡ not none → (IsTrue none → AreFinished g above) × (AreFinished g above → IsTrue none)
finished_told g above d knows None new true some is told = (λ yes'. (finished_of g above (last_goal above) d.left knows.left knows.within).0 is.0, λ at_end. refl)
finished_told g above d knows None new false some is told = absurd cc
finished_told g above d knows (Some goal) new true some is told = absurd cc
finished_told g above d knows (Some goal) new false some is told =
    (λ yes'. absurd cc, λ at_end. absurd (let none = (finished_of g above (last_goal above) d.left knows.left knows.within).1 at_end in let more : goal ∷ new ≡ [] = sym some ∙ none in cc))

-- ---- which criterion comes next

number_same : (c d : Criterion) → (number c == number d) ≡ true → number c ≡ number d
number_same criteria.Rule criteria.Rule e = refl
number_same criteria.Rule criteria.Cdrc e = absurd cc
number_same criteria.Rule criteria.Pair e = absurd cc
number_same criteria.Cdrc criteria.Rule e = absurd cc
number_same criteria.Cdrc criteria.Cdrc e = refl
number_same criteria.Cdrc criteria.Pair e = absurd cc
number_same criteria.Pair criteria.Rule e = absurd cc
number_same criteria.Pair criteria.Cdrc e = absurd cc
number_same criteria.Pair criteria.Pair e = refl

number_below : (c d : Criterion) → nat_lt (number c) (number d) ≡ true → number c < number d
number_below criteria.Rule criteria.Rule e = absurd cc
number_below criteria.Rule criteria.Cdrc e = omega arith
number_below criteria.Rule criteria.Pair e = omega arith
number_below criteria.Cdrc criteria.Rule e = absurd cc
number_below criteria.Cdrc criteria.Cdrc e = absurd cc
number_below criteria.Cdrc criteria.Pair e = omega arith
number_below criteria.Pair criteria.Rule e = absurd cc
number_below criteria.Pair criteria.Cdrc e = absurd cc
number_below criteria.Pair criteria.Pair e = absurd cc

other_number : (c d : Criterion) → (number c == number d) ≡ false → number c ≡ number d → ⊥
other_number criteria.Rule criteria.Rule e same = absurd cc
other_number criteria.Rule criteria.Cdrc e same = absurd (omega (arith, same))
other_number criteria.Rule criteria.Pair e same = absurd (omega (arith, same))
other_number criteria.Cdrc criteria.Rule e same = absurd (omega (arith, same))
other_number criteria.Cdrc criteria.Cdrc e same = absurd cc
other_number criteria.Cdrc criteria.Pair e same = absurd (omega (arith, same))
other_number criteria.Pair criteria.Rule e same = absurd (omega (arith, same))
other_number criteria.Pair criteria.Cdrc e same = absurd (omega (arith, same))
other_number criteria.Pair criteria.Pair e same = absurd cc

number_later : (c d : Criterion) → number c < number d → nat_lt (number c) (number d) ≡ true
number_later criteria.Rule criteria.Rule less = absurd (omega (arith, less))
number_later criteria.Rule criteria.Cdrc less = refl
number_later criteria.Rule criteria.Pair less = refl
number_later criteria.Cdrc criteria.Rule less = absurd (omega (arith, less))
number_later criteria.Cdrc criteria.Cdrc less = absurd (omega (arith, less))
number_later criteria.Cdrc criteria.Pair less = refl
number_later criteria.Pair criteria.Rule less = absurd (omega (arith, less))
number_later criteria.Pair criteria.Cdrc less = absurd (omega (arith, less))
number_later criteria.Pair criteria.Pair less = absurd (omega (arith, less))

-- the last goal is of the words' criterion
record IsSameAs (o : Option GoalWords) (last : Option Criterion) (w : GoalWords) : Type 0 where
  pub words : GoalWords
  pub is : o ≡ Some words
  pub same : criterion words ≡ criterion w
  pub tells : TellsLast (Some w) last

last_same : (o : Option GoalWords) (last : Option Criterion) (c : Criterion) (w : GoalWords) → TellsLast o last → number c ≡ criterion w → is_last last c ≡ true → IsSameAs o last w
last_same None None c w t n is = absurd cc
last_same None (Some x) c w t n is = absurd t
last_same (Some lw) None c w t n is = absurd t
last_same (Some lw) (Some x) c w t n is = let e = number_same x c is in record { words = lw; is = refl; same = omega (arith, t, n, e); tells = omega (arith, n, e) }

later_behind : (o : Option GoalWords) (last : Option Criterion) (c : Criterion) (w : GoalWords) → TellsLast o last → number c ≡ criterion w → is_later last c ≡ true → IsBehind o w
later_behind None last c w t n is = tt
later_behind (Some lw) None c w t n is = absurd t
later_behind (Some lw) (Some x) c w t n is = let e = number_below x c is in omega (arith, t, n, e)

behind_more : (o : Option GoalWords) (w v : GoalWords) → IsBehind o w → criterion w < criterion v → IsBehind o v
behind_more None w v behind less = tt
behind_more (Some lw) w v behind less = omega (arith, behind, less)

may_later : (g : PlainGrammar) (above : List GoalWords) (o : Option GoalWords) (w : GoalWords) → IsBehind o w → AreFinishedBehind g above o → MayFollow g above o w
may_later g above None w behind at_end = tt
may_later g above (Some lw) w behind at_end = inr (behind, at_end)

-- ---- the next goal of the last goal's criterion

-- what is left is the rest of the words' list
left_here : (g : PlainGrammar) (above : List GoalWords) (w : GoalWords) (d : DueGoals) → KnowsGoals g above d → IsSameAs (last_goal above) d.last w → d.left ≡ drop (told above w) (list_of g w)
left_here g above w d knows s =
    knows.left ∙ ap (left_of g above) s.is
    ∙ ap (λ (n : ℕ). drop n (list_of g s.words)) (same_told above s.words w s.same)
    ∙ ap (λ (l : List Goal). drop (told above w) l) (same_list g s.words w s.same)

pub next_here : (g : PlainGrammar) (above : List GoalWords) (c : Criterion) (w : GoalWords) (d new : DueGoals) (goal : Goal) → KnowsGoals g above d → number c ≡ criterion w → is_last d.last c ≡ true → d.left ≡ goal ∷ new.left → new.grammar.now ≡ d.grammar.now → new.last ≡ d.last → IsNextOf g above w goal × KnowsGoals g (above ++ w ∷ []) new
next_here g above c w d new goal knows n is given grammar last =
    let s = last_same (last_goal above) d.last c w knows.last n is in
    let rest = sym (left_here g above w d knows s) ∙ given in (
      record {
        follows = subst (λ (o : Option GoalWords). MayFollow g above o w) (sym s.is) (inl (sym s.same));
        next = first_dropped (list_of g w) (told above w) goal new.left rest;
      },
      knows_then g above w new.left new (is_taken g above w goal new.left rest) (grammar ∙ knows.grammar) refl
          (subst (λ (l : Option Criterion). TellsLast (Some w) l) (sym last) s.tells)
          (λ v less. knows.later v (subst (λ (o : Option GoalWords). IsBehind o v) (sym s.is) (let same = s.same in omega (arith, same, less)))),
    )

pub none_here : (g : PlainGrammar) (above : List GoalWords) (c : Criterion) (w : GoalWords) (d : DueGoals) (goal : Goal) → KnowsGoals g above d → number c ≡ criterion w → is_last d.last c ≡ true → d.left ≡ [] → IsNextOf g above w goal → ⊥
none_here g above c w d goal knows n is none next =
    let s = last_same (last_goal above) d.last c w knows.last n is in
    let past = none_dropped (list_of g w) (told above w) (sym (left_here g above w d knows s) ∙ none) in
    let within = got_dropped (list_of g w) (told above w) goal next.next in
    absurd (omega (arith, past, within))

-- ---- the first goal of a later criterion

pub next_later : (g : PlainGrammar) (above : List GoalWords) (c : Criterion) (w : GoalWords) (d new : DueGoals) (goal : Goal) → KnowsGoals g above d → number c ≡ criterion w → is_later d.last c ≡ true → AreFinished g above → goals g (criteria_of c) ≡ goal ∷ new.left → new.grammar.now ≡ d.grammar.now → new.last ≡ Some c → IsNextOf g above w goal × KnowsGoals g (above ++ w ∷ []) new
next_later g above c w d new goal knows n is at_end given grammar last =
    let behind = later_behind (last_goal above) d.last c w knows.last n is in
    let zero_told = knows.later w behind in
    let rest : drop (told above w) (list_of g w) ≡ goal ∷ new.left = ap (λ (k : ℕ). drop k (list_of g w)) zero_told ∙ sym (goals_of g c w n) ∙ given in (
      record {
        follows = may_later g above (last_goal above) w behind at_end;
        next = first_dropped (list_of g w) (told above w) goal new.left rest;
      },
      knows_then g above w new.left new (is_taken g above w goal new.left rest) (grammar ∙ knows.grammar) refl
          (subst (λ (l : Option Criterion). TellsLast (Some w) l) (sym last) n)
          (λ v less. knows.later v (behind_more (last_goal above) w v behind less)),
    )

pub none_later : (g : PlainGrammar) (above : List GoalWords) (c : Criterion) (w : GoalWords) (d : DueGoals) (goal : Goal) → KnowsGoals g above d → number c ≡ criterion w → is_later d.last c ≡ true → goals g (criteria_of c) ≡ [] → IsNextOf g above w goal → ⊥
none_later g above c w d goal knows n is none next =
    let empty = sym (goals_of g c w n) ∙ none in
    let within = got_dropped (list_of g w) (told above w) goal next.next in
    absurd (let long = ap (λ (l : List Goal). length l) empty in omega (arith, long, within))

-- ---- where none may come

may_not : (g : PlainGrammar) (above : List GoalWords) (o : Option GoalWords) (last : Option Criterion) (c : Criterion) (w : GoalWords) → TellsLast o last → number c ≡ criterion w → is_last last c ≡ false → MayFollow g above o w → (is_later last c ≡ true) × AreFinishedBehind g above o
may_not g above None None c w t n other may = (refl, tt)
may_not g above None (Some x) c w t n other may = absurd t
may_not g above (Some lw) None c w t n other may = absurd t
may_not g above (Some lw) (Some x) c w t n other may =
    ⊎_elim
    (λ same. absurd (other_number x c other (omega (arith, same, t, n))))
    (λ later. (number_later x c (let less = later.0 in omega (arith, less, t, n)), later.1))
    may

pub none_may : (g : PlainGrammar) (above : List GoalWords) (c : Criterion) (w : GoalWords) (d : DueGoals) (goal : Goal) → KnowsGoals g above d → number c ≡ criterion w → is_last d.last c ≡ false → ((is_later d.last c ≡ true) → AreFinished g above → ⊥) → IsNextOf g above w goal → ⊥
none_may g above c w d goal knows n other never next =
    let both = may_not g above (last_goal above) d.last c w knows.last n other next.follows in
    never both.0 both.1
