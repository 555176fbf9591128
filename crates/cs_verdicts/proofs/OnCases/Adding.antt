-- Goals that get a number where they have none.
use Rattle.std.proofs.Common.{◌≡◌, ℕ, inl, inr, ⊎_elim, List, [], ◌∷◌, ◌++◌, refl, sym, ap, ◌∙◌, subst, append_assoc, append-nil}
use Rattle.std.specs.Prelude.{Contains}
use Rattle.std.proofs.lemmas.List.Elements.{All-weaker, Contains-append_left, Contains-append_right, Contains-append_cases, Contains-push, Contains-push_cases}
use Rattle.cs_goals.specs.declared.goal.Goal.{Goal}
use Rattle.cs_goals.specs.declared.goal.Goal.TheVariants.{Rule, Context, Pair}
use Rattle.cs_verdicts.specs.Cases.Firsts.{AreFirsts, IsSlot}
use Rattle.cs_verdicts.specs.Cases.Table.{AreAllAdded, AreRuled, HasNone, HasNumber, IsAdded, IsGrown, IsRuled}
use Rattle.cs_verdicts.proofs.OnCases.Listed.{nothing}

abbrev Table : Type 0
Table = List (Goal × ℕ)

-- ---- what is known stays so

has_more : (old more : Table) (goal : Goal) → HasNumber old goal → HasNumber (old ++ more) goal
has_more old more goal has = (has.0, Contains-append_left old more (goal, has.0) has.1)

has_grown : (old new : Table) (goal : Goal) → IsGrown old new → HasNumber old goal → HasNumber new goal
has_grown old new goal grown has = subst (λ (l : Table). HasNumber l goal) (sym grown.1) (has_more old grown.0 goal has)

none_before : (old new : Table) (goal : Goal) → IsGrown old new → HasNone new goal → HasNone old goal
none_before old new goal grown none k there =
    none k (subst (λ (l : Table). Contains l (goal, k)) (sym grown.1) (Contains-append_left old grown.0 (goal, k) there))

pub grown_twice : (old mid new : Table) → IsGrown old mid → IsGrown mid new → IsGrown old new
grown_twice old mid new a b = (a.0 ++ b.0, b.1 ∙ ap (λ (l : Table). l ++ b.0) a.1 ∙ append_assoc old a.0 b.0)

pub grown_not : (old : Table) → IsGrown old old
grown_not old = ([], sym (append-nil old))

-- a goal that was added has a number
pub added_has : (old new : Table) (one : Goal) (n : ℕ) → IsAdded old one n new → HasNumber new one
added_has old new one n k =
    ⊎_elim (λ was. subst (λ (l : Table). HasNumber l one) (sym was.1) was.0)
    (λ got. (n, subst (λ (l : Table). Contains l (one, n)) (sym got.1) (Contains-push old (one, n)))) k

-- ---- several goals

pub added_no : (old : Table) (n : ℕ) → AreAllAdded old [] n old
added_no old n = record {
  grown = grown_not old;
  only = λ goal m c. inl c;
  every = λ goal c. absurd (nothing goal c);
}

module _ (old new : Table) (one : Goal) (n : ℕ) where
  pub added_there : HasNumber old one → new ≡ old → AreAllAdded old (one ∷ []) n new
  added_there has same = record {
    grown = ([], same ∙ sym (append-nil old));
    only = λ goal m c. inl (subst (λ (l : Table). Contains l (goal, m)) same c);
    every = λ goal c. subst (λ (l : Table). HasNumber l goal) (sym same)
        (⊎_elim (λ none. absurd (nothing goal none)) (λ is. subst (HasNumber old) is has) (Contains-push_cases [] one goal c));
  }

  added_new : HasNone old one → new ≡ old ++ (one, n) ∷ [] → AreAllAdded old (one ∷ []) n new
  added_new none put = record {
    grown = ((one, n) ∷ [], put);
    only = λ goal m c.
        ⊎_elim (λ before. inl before)
        (λ last.
        let number : m ≡ n = ap (λ (p : Goal × ℕ). p.1) (sym last) in
        let is : one ≡ goal = ap (λ (p : Goal × ℕ). p.0) last in
        inr (number, subst (λ (q : Goal). Contains (one ∷ []) q) is (Contains-push [] one), subst (HasNone old) is none))
        (Contains-push_cases old (one, n) (goal, m) (subst (λ (l : Table). Contains l (goal, m)) put c));
    every = λ goal c. subst (λ (l : Table). HasNumber l goal) (sym put)
        (⊎_elim (λ before. absurd (nothing goal before))
        (λ is. (n, subst (λ (q : Goal). Contains (old ++ (one, n) ∷ []) (q, n)) is (Contains-push old (one, n)))) (Contains-push_cases [] one goal c));
  }

  pub added_one : IsAdded old one n new → AreAllAdded old (one ∷ []) n new
  added_one k = ⊎_elim (λ was. added_there was.0 was.1) (λ got. added_new got.0 got.1) k

-- some goals, and then others
pub added_both : (old mid new : Table) (xs ys : List Goal) (n : ℕ) → AreAllAdded old xs n mid → AreAllAdded mid ys n new → AreAllAdded old (xs ++ ys) n new
added_both old mid new xs ys n a b = record {
  grown = grown_twice old mid new a.grown b.grown;
  only = λ goal m c.
      ⊎_elim
      (λ before. ⊎_elim (λ was. inl was) (λ got. inr (got.0, Contains-append_left xs ys goal got.1, got.2)) (a.only goal m before))
      (λ got. inr (got.0, Contains-append_right xs ys goal got.1, none_before old mid goal a.grown got.2))
      (b.only goal m c);
  every = λ goal c.
      ⊎_elim (λ first. has_grown mid new goal b.grown (a.every goal first)) (λ second. b.every goal second) (Contains-append_cases xs ys goal c);
}

-- a list with the same goals
pub added_same : (old new : Table) (xs ys : List Goal) (n : ℕ) → ((q : Goal) → Contains xs q → Contains ys q) → ((q : Goal) → Contains ys q → Contains xs q) → AreAllAdded old xs n new → AreAllAdded old ys n new
added_same old new xs ys n to from a = record {
  grown = a.grown;
  only = λ goal m c. ⊎_elim (λ was. inl was) (λ got. inr (got.0, to goal got.1, got.2)) (a.only goal m c);
  every = λ goal c. a.every goal (from goal c);
}

-- one in the midst is put elsewhere
module _ (xs ys zs : List Goal) (r : Goal) where
  abbrev apart : List Goal
  apart = (xs ++ ys) ++ r ∷ zs

  abbrev sorted : List Goal
  sorted = (xs ++ r ∷ []) ++ (ys ++ zs)

  to_sorted : (q : Goal) → Contains apart q → Contains sorted q
  to_sorted q c =
      ⊎_elim
      (λ front. ⊎_elim (λ a. Contains-append_left (xs ++ r ∷ []) (ys ++ zs) q (Contains-append_left xs (r ∷ []) q a))
      (λ b. Contains-append_right (xs ++ r ∷ []) (ys ++ zs) q (Contains-append_left ys zs q b)) (Contains-append_cases xs ys q front))
      (λ back. ⊎_elim (λ one. Contains-append_left (xs ++ r ∷ []) (ys ++ zs) q (Contains-append_right xs (r ∷ []) q one))
      (λ last. Contains-append_right (xs ++ r ∷ []) (ys ++ zs) q (Contains-append_right ys zs q last)) (Contains-append_cases (r ∷ []) zs q back))
      (Contains-append_cases (xs ++ ys) (r ∷ zs) q c)

  from_sorted : (q : Goal) → Contains sorted q → Contains apart q
  from_sorted q c =
      ⊎_elim
      (λ front. ⊎_elim (λ a. Contains-append_left (xs ++ ys) (r ∷ zs) q (Contains-append_left xs ys q a))
      (λ one. Contains-append_right (xs ++ ys) (r ∷ zs) q (Contains-append_left (r ∷ []) zs q one)) (Contains-append_cases xs (r ∷ []) q front))
      (λ back. ⊎_elim (λ b. Contains-append_left (xs ++ ys) (r ∷ zs) q (Contains-append_right xs ys q b))
      (λ last. Contains-append_right (xs ++ ys) (r ∷ zs) q (Contains-append_right (r ∷ []) zs q last)) (Contains-append_cases ys zs q back))
      (Contains-append_cases (xs ++ r ∷ []) (ys ++ zs) q c)

  pub added_sorted : (old new : Table) (n : ℕ) → AreAllAdded old apart n new → AreAllAdded old sorted n new
  added_sorted old new n a = added_same old new apart sorted n to_sorted from_sorted a

-- ---- the table with its slots

ruled_has : (old new : Table) (goal : Goal) → IsGrown old new → IsRuled old goal → IsRuled new goal
ruled_has old new (Rule r) grown h = tt
ruled_has old new (Context p i q) grown h = has_grown old new (Rule q) grown h
ruled_has old new (Pair a b) grown h = tt

ruled_more : (old new : Table) (one : Goal) (n : ℕ) → new ≡ old ++ (one, n) ∷ [] → AreRuled old → IsRuled old one → AreRuled new
ruled_more old new one n put all is goal has =
    ruled_has old new goal ((one, n) ∷ [], put)
    (⊎_elim (λ before. all goal (has.0, before)) (λ last. subst (IsRuled old) (ap (λ (p : Goal × ℕ). p.0) last) is)
    (Contains-push_cases old (one, n) (goal, has.0) (subst (λ (l : Table). Contains l (goal, has.0)) put has.1)))

slot_more : (old new : Table) (slot : ℕ) → IsGrown old new → IsSlot old slot → IsSlot new slot
slot_more old new slot grown h =
    ⊎_elim (λ none. inl none)
    (λ is. inr (record { key = is.key; small = is.small; number = is.number; known = has_grown old new _ grown is.known })) h

pub firsts_more : (old new : Table) (one : Goal) (n : ℕ) (slots : List ℕ) → new ≡ old ++ (one, n) ∷ [] → IsRuled old one → AreFirsts old slots → AreFirsts new slots
firsts_more old new one n slots put is all = record {
  ruled = ruled_more old new one n put all.ruled is;
  known = All-weaker (IsSlot old) (IsSlot new) (λ slot h. slot_more old new slot ((one, n) ∷ [], put) h) slots all.known;
}

-- a context that is known, with its rule
pub context_there : (firsts : Table) (p i q n : ℕ) → AreRuled firsts → HasNumber firsts (Context p i q) → AreAllAdded firsts (Rule q ∷ Context p i q ∷ []) n firsts
context_there firsts p i q n ruled has =
    added_both firsts firsts firsts (Rule q ∷ []) (Context p i q ∷ []) n
    (added_there firsts firsts (Rule q) n (ruled (Context p i q) has) refl) (added_there firsts firsts (Context p i q) n has refl)
