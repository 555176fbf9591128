-- The case at a place.
use Rattle.std.proofs.Common.{◌≡◌, ℕ, ◌+◌, ◌-◌, ◌<◌, Bool, List, [], ◌∷◌, ◌++◌, Some, length, get_or, refl, sym, ap, ◌∙◌, subst, arith, ◌↔◌}
use Rattle.std.specs.Prelude.{All, IsTrue, slice_get}
use Rattle.std.proofs.lemmas.Option.{slice_get-get_or, get_or_from_slice_get}
use Rattle.cs_grammar.specs.declared.symbol.Mark.{Mark}
use Rattle.cs_grammar.specs.declared.symbol.Symbol.{Symbol}
use Rattle.cs_grammar.specs.Grammar.{PlainGrammar}
use Rattle.cs_grammar.specs.Leftmost.{IsYield}
use Rattle.cs_grammar.specs.Sentence.{framed, IsFollowed}
use Rattle.cs_grammar.specs.Tree.{Tree, IsTree, yield, IsDerivationOf, IsPrefixFree}
use Rattle.cs_goals.specs.declared.goal.Goal.{Goal}
use Rattle.cs_goals.specs.declared.goal.Goal.TheVariants.{Pair}
use Rattle.cs_goals.specs.Meets.{IsMeeting}
use Rattle.cs_check.specs.Passing.Entries.{IsNumbered, IsLast}
use Rattle.cs_check.specs.Checking.Cases.{PlainCase, PlainCases, case_of, cases_of, IsAt, HoldsLast, Meets, Shows}
use Rattle.cs_check.proofs.OnChecking.Once.{one_numbered, last_push, one_yield}

pub rules_at : (g : PlainGrammar) (cases : List PlainCase) (place : ℕ) (d : PlainCase) (rules : List ℕ) → place < length cases → All (λ (case : PlainCase). IsDerivationOf g case.rules) cases → rules ≡ (get_or cases place d).rules → IsDerivationOf g rules
rules_at g cases place d rules low all is = subst (λ (r : List ℕ). IsDerivationOf g r) (sym is) (all place d low)

-- those of a case of a whole value, too
pub derived_at : (g : PlainGrammar) (cases : List PlainCase) (told : PlainCases) → cases_of g cases ≡ told → (place : ℕ) → place < length told.list → All (λ (case : PlainCase). IsDerivationOf g case.rules) cases → (rules : List ℕ) → ((case : PlainCase) → IsAt told place case → rules ≡ case.rules) → IsDerivationOf g rules
derived_at g cases told is place low all rules same =
    let long = ap (λ (c : PlainCases). length c.list) is in
    let within : place < length cases = omega (arith, low, long) in
    let d = case_of 0 [] in
    let at = subst (λ (c : PlainCases). IsAt c place (get_or cases place d)) is (slice_get-get_or cases place d within) in
    rules_at g cases place d rules within all (same (get_or cases place d) at)

pub same_rules : (cases : List PlainCase) (place : ℕ) (d case : PlainCase) (rules : List ℕ) → rules ≡ (get_or cases place d).rules → slice_get cases place ≡ Some case → rules ≡ case.rules
same_rules cases place d case rules is at =
    is ∙ ap (λ (c : PlainCase). c.rules) (get_or_from_slice_get cases place case d at)

pub meets_one : (g : PlainGrammar) (cases : List PlainCase) (goal : Goal) (n place : ℕ) → n ≡ place + 1 → place < length cases → (d : PlainCase) (rules : List ℕ) → rules ≡ (get_or cases place d).rules → IsMeeting g goal rules ↔ Meets g cases goal n
meets_one g cases goal n place is low d rules same =
    let back : n - 1 ≡ place = omega arith in (
      λ h. (
        get_or cases place d,
        (omega arith, ap (slice_get cases) back ∙ slice_get-get_or cases place d low),
        subst (λ (r : List ℕ). IsMeeting g goal r) same h,
      ),
      λ h. subst (λ (r : List ℕ). IsMeeting g goal r)
          (sym (same_rules cases place d h.0 rules same (ap (slice_get cases) (sym back) ∙ h.1.1)))
          h.2,
    )

-- ---- what a goal line shows

module _ (g : PlainGrammar) (cases : List PlainCase) (goal : Goal) (size n place : ℕ) (is : n ≡ place + 1) (low : place < length cases) (d : PlainCase) where
  numbered_here : IsNumbered cases n (get_or cases place d)
  numbered_here =
      let back : n - 1 ≡ place = omega arith in
      (omega arith, ap (slice_get cases) back ∙ slice_get-get_or cases place d low)

  same_case : (case : PlainCase) → IsNumbered cases n case → get_or cases place d ≡ case
  same_case case h =
      let back : place ≡ n - 1 = omega arith in
      get_or_from_slice_get cases place case d (ap (slice_get cases) back ∙ h.1)

  pub other_size : (first : ℕ) → (size ≡ (get_or cases place d).size → ⊥) → Shows g cases goal size n first → ⊥
  other_size first other h = other (h.sized ∙ sym (ap (λ (c : PlainCase). c.size) (same_case h.case h.numbered)))

  pub shown_from : (first : ℕ) → size ≡ (get_or cases place d).size → Meets g cases goal n → (so : Bool) → IsTrue so ↔ Meets g cases goal first → IsTrue so ↔ Shows g cases goal size n first
  shown_from first same met so is = (
    λ e. record { case = get_or cases place d; numbered = numbered_here; sized = same; met = met; met_first = is.0 e },
    λ h. is.1 h.met_first,
  )

-- ---- the last case, whose rules and tokens are held

pub holds_none : (g : PlainGrammar) (rules tokens : List ℕ) → HoldsLast g [] rules tokens
holds_none g rules tokens case last = let some = last.0 in absurd (omega arith)

pub holds_last : (g : PlainGrammar) (cases : List PlainCase) (new : PlainCase) (rules tokens : List ℕ) → rules ≡ new.rules → IsYield g rules tokens → HoldsLast g (cases ++ new ∷ []) rules tokens
holds_last g cases new rules tokens same yields case last =
    let is = one_numbered (cases ++ new ∷ []) (length (cases ++ new ∷ [])) new case (last_push cases new) last in
    (same ∙ ap (λ (c : PlainCase). c.rules) is, yields)

-- a case stands at the last place, if there is one
pub last_is_at : (cases : List PlainCase) (place : ℕ) (case : PlainCase) → place + 1 ≡ length cases → slice_get cases place ≡ Some case → IsLast cases case
last_is_at cases place case is at =
    let back : length cases - 1 ≡ place = omega arith in
    (omega arith, ap (slice_get cases) back ∙ at)

pub held : (g : PlainGrammar) (cases : List PlainCase) (rules tokens : List ℕ) → 0 < length cases → HoldsLast g cases rules tokens → IsYield g rules tokens
held g cases rules tokens some holds =
    let low : length cases - 1 < length cases = omega arith in
    let d = case_of 0 [] in
    (holds (get_or cases (length cases - 1) d) (some, slice_get-get_or cases (length cases - 1) d low)).1

-- its tokens tell which pairs it meets
pub pair_met : (g : PlainGrammar) (one : (x : Symbol) (t : Tree) → IsTree g x t → IsPrefixFree g x t) (rules tokens : List ℕ) → IsYield g rules tokens → (a b : Mark) (met : Bool) → IsTrue met ↔ IsFollowed a b (framed tokens) → IsTrue met ↔ IsMeeting g (Pair a b) rules
pair_met g one rules tokens yields a b met is = (
  λ e. record {
    tree = yields.tree;
    is_tree = yields.is_tree;
    code = yields.code;
    meets = subst (λ (t : List ℕ). IsFollowed a b (framed t)) yields.yield (is.0 e);
  },
  λ m.
      let other : IsYield g rules (yield m.tree) = record { tree = m.tree; is_tree = m.is_tree; code = m.code; yield = refl } in
      is.1 (subst (λ (t : List ℕ). IsFollowed a b (framed t)) (one_yield g one rules (yield m.tree) tokens other yields) m.meets),
)
