-- The lowest of a kind in a list of codes, and what is known of goals when one more code stands last.
use Rattle.std.proofs.Common.{◌≡◌, ℕ, zero, suc, ◌+◌, ◌-◌, ◌<◌, ◌⊎◌, inl, inr, ⊎_elim, Bool, true, false, List, [], ◌∷◌, ◌++◌, length, refl, sym, ap, ◌∙◌, subst, arith}
use Rattle.std.specs.Prelude.{Some, slice_get, Contains, IsTrue, ◌↔◌, if◌then◌else◌}
use Rattle.std.proofs.lemmas.Bool.{cases_lt, false≢true}
use Rattle.std.proofs.lemmas.List.{length-append}
use Rattle.std.proofs.lemmas.List.Elements.{Contains-append_left}
use Rattle.std.proofs.lemmas.Option.{slice_get_within, get_or_from_slice_get}
use Rattle.cs_grammar.specs.Grammar.{PlainGrammar}
use Rattle.cs_goals.specs.declared.goal.Goal.{Goal}
use Rattle.cs_goals.specs.Goals.{HasExactly}
use Rattle.cs_goals.specs.Meets.{IsMeeting}
use Rattle.cs_verdicts.specs.declared.cases.cases.Named.{Named}
use Rattle.cs_verdicts.specs.Cases.Cases.{PlainCases, IsLowest, IsNew, IsCaseOf, with_case}
use Rattle.cs_verdicts.specs.Cases.Laws.{IsOnePlacing}
use Rattle.cs_verdicts.specs.Cases.Table.{AreFirstCases, AreAllAdded, IsOwn}

-- ---- a list with one more at its end

get_left : {A : Type 0} (xs : List A) (y : A) (k : ℕ) → k < length xs → slice_get (xs ++ y ∷ []) k ≡ slice_get xs k
get_left [] y k lt = absurd (omega arith)
get_left (x ∷ xs) y zero lt = refl
get_left (x ∷ xs) y (suc k) lt = get_left xs y k (omega arith)

get_last : {A : Type 0} (xs : List A) (y : A) → slice_get (xs ++ y ∷ []) (length xs) ≡ Some y
get_last [] y = refl
get_last (x ∷ xs) y = get_last xs y

get_cases : {A : Type 0} (xs : List A) (y z : A) (k : ℕ) → slice_get (xs ++ y ∷ []) k ≡ Some z → (slice_get xs k ≡ Some z) ⊎ (y ≡ z)
get_cases {A} xs y z k at =
    let within = slice_get_within (xs ++ y ∷ []) k z at in
    let long = length-append xs (y ∷ []) in
    ⊎_elim (λ before. inl (sym (get_left xs y k before) ∙ at))
    (λ past.
    let last : length xs ≡ k = omega (arith, within, long, past) in
    let e : Some y ≡ Some z = sym (get_last xs y) ∙ ap (λ i. slice_get (xs ++ y ∷ []) i) last ∙ at in
    inr cc)
    (cases_lt k (length xs))

pub Contains-get : {A : Type 0} (xs : List A) (k : ℕ) (x : A) → slice_get xs k ≡ Some x → Contains xs x
Contains-get xs k x at = (k, slice_get_within xs k x at, get_or_from_slice_get xs k x x at)

-- ---- the lowest of a kind

module _ (IsOne : List ℕ → Type 0) (codes : List (List ℕ)) where
  pub one_lowest : (n m : ℕ) → IsLowest IsOne codes n → IsLowest IsOne codes m → n ≡ m
  one_lowest n m h k =
      ⊎_elim (λ below. absurd (k.lowest (n - 1) h.code (omega (arith, below, h.above_zero)) h.at h.is_one))
      (λ not_below. ⊎_elim (λ above. absurd (h.lowest (m - 1) k.code (omega (arith, above, k.above_zero)) k.at k.is_one)) (λ not_above. omega (arith, not_below, not_above)) (cases_lt m n))
      (cases_lt n m)

  pub lowest_more : (code : List ℕ) (n : ℕ) → IsLowest IsOne codes n → IsLowest IsOne (codes ++ code ∷ []) n
  lowest_more code n h =
      let within = slice_get_within codes (n - 1) h.code h.at in
      record {
        code = h.code;
        above_zero = h.above_zero;
        at = get_left codes code (n - 1) within ∙ h.at;
        is_one = h.is_one;
        lowest = λ k other lt at is. h.lowest k other lt (sym (get_left codes code k (omega (arith, lt, within))) ∙ at) is;
      }

  pub lowest_last : (code : List ℕ) (n : ℕ) → n ≡ length codes + 1 → IsOne code → ((k : ℕ) (other : List ℕ) → slice_get codes k ≡ Some other → IsOne other → ⊥) → IsLowest IsOne (codes ++ code ∷ []) n
  lowest_last code n last is none =
      let at : length codes ≡ n - 1 = omega (arith, last) in
      record {
        code = code;
        above_zero = omega (arith, last);
        at = ap (λ k. slice_get (codes ++ code ∷ []) k) (sym at) ∙ get_last codes code;
        is_one = is;
        lowest = λ k other lt there of_kind. none k other (sym (get_left codes code k (omega (arith, lt, at))) ∙ there) of_kind;
      }

-- ---- what is known of goals

pub tells_more : (g : PlainGrammar) (codes : List (List ℕ)) (firsts after : List (Goal × ℕ)) (code : List ℕ) (goals : List Goal) (n : ℕ) → n ≡ length codes + 1
    → AreFirstCases g codes firsts → HasExactly goals (λ goal. IsMeeting g goal code) → AreAllAdded firsts goals n after → AreFirstCases g (codes ++ code ∷ []) after
tells_more g codes firsts after code goals n last tells met added = record {
  lowest = λ goal m h.
      ⊎_elim (λ old. lowest_more (IsMeeting g goal) codes code m (tells.lowest goal m old))
      (λ new.
      lowest_last (IsMeeting g goal) codes code m (new.0 ∙ last) ((met goal).0 new.1)
      (λ k other at is. let has = tells.every k other goal at is in new.2 has.0 has.1))
      (added.only goal m h);
  every = λ k other goal at is.
      ⊎_elim
      (λ old.
      let has = tells.every k other goal old is in
      (has.0, subst (λ (l : List (Goal × ℕ)). Contains l (goal, has.0)) (sym added.grown.1) (Contains-append_left firsts added.grown.0 (goal, has.0) has.1)))
      (λ same. added.every goal ((met goal).1 (subst (IsMeeting g goal) (sym same) is)))
      (get_cases codes code other k at);
}

-- ---- a code's own case

pub known_own : (old : PlainCases) (code : List ℕ) (n : ℕ) → IsCaseOf old code n → IsOwn old code old (n, false)
known_own old code n own = record {
  fresh = (λ no. absurd (false≢true no), λ new. absurd (new (Contains-get old.codes (n - 1) code (own.at ∙ ap Some own.is_one))));
  cases = refl;
  number = own;
}

pub new_own : (old new : PlainCases) (code : List ℕ) (n : ℕ) → IsNew old code → new ≡ with_case old code → n ≡ length old.codes + 1 → IsOwn old code new (n, true)
new_own old new code n is_new made last = record {
  fresh = (λ _. is_new, λ _. refl);
  cases = made;
  number = subst (λ (c : PlainCases). IsCaseOf c code n) (sym made)
      (lowest_last (λ other. other ≡ code) old.codes code n last refl (λ k other at same. is_new (Contains-get old.codes k code (at ∙ ap Some same))));
}

-- ---- one answer

abbrev named_of : ℕ → ℕ → Bool → Named
named_of case first fresh = record { case = case; first = first; fresh = fresh }

same_named : (a b : Named) → a.case ≡ b.case → a.first ≡ b.first → a.fresh ≡ b.fresh → a ≡ b
same_named a b c f s =
    ap (λ (x : ℕ). named_of x a.first a.fresh) c ∙ ap (λ (x : ℕ). named_of b.case x a.fresh) f ∙ ap (λ (x : Bool). named_of b.case b.first x) s

same_truth : {P : Type 0} (a b : Bool) → IsTrue a ↔ P → IsTrue b ↔ P → a ≡ b
same_truth true true h k = refl
same_truth false false h k = refl
same_truth true false h k = absurd (false≢true (k.1 (h.0 refl)))
same_truth false true h k = absurd (false≢true (h.1 (k.0 refl)))

pub one_placing : (old : PlainCases) (goal : Goal) (code : List ℕ) → IsOnePlacing old goal code
one_placing old goal code new other named again h k =
    let fresh = same_truth named.fresh again.fresh h.fresh k.fresh in
    let cases : new ≡ other = h.cases ∙ ap (λ (b : Bool). if b then with_case old code else old) fresh ∙ sym k.cases in
    let own = subst (λ (c : PlainCases). IsLowest (λ o. o ≡ code) c.codes named.case) cases h.own in
    let first = subst (λ (c : PlainCases). IsLowest (IsMeeting c.grammar goal) c.codes named.first) cases h.first in (
      cases,
      same_named named again (one_lowest (λ o. o ≡ code) other.codes named.case again.case own k.own)
          (one_lowest (IsMeeting other.grammar goal) other.codes named.first again.first first k.first) fresh,
    )
