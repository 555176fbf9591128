-- The kept negatives of a list of edits.
use Rattle.std.proofs.Common.{◌≡◌, ℕ, ◌≤◌, List, [], ◌∷◌, ◌++◌, length, Option, None, Some, refl, sym, ap, ◌∙◌, subst, ⊎_elim, inl, inr, append_assoc, append-nil, arith}
use Rattle.std.specs.List.{All}
use Rattle.std.proofs.lemmas.List.Elements.{All-head, All-tail}
use Rattle.cs_grammar.specs.Grammar.{PlainGrammar}
use Rattle.cs_goals.proofs.Members.{Among, Contains-from_Among, Among-from_Contains}
use Rattle.cs_mutate.specs.declared.edit.Edit.{Edit}
use Rattle.cs_mutate.specs.declared.negative.Negative.{Negative}
use Rattle.cs_mutate.specs.Edit.{edited}
use Rattle.cs_mutate.specs.Negatives.{AreNegatives}
use Rattle.cs_mutate.specs.Kept.{AreKept, AreOfThose, AreOutside, HasSomeKept, IsKept, IsSingle}
use Rattle.cs_mutate.specs.Keeping.{AreKeptOf, IsDropped, IsNextKept}
use Rattle.cs_mutate.proofs.Listed.{members, one_list}
use Rattle.cs_mutate.proofs.Marks.{outside}

-- ---- negatives of two lists of edits

module _ (g : PlainGrammar) (w : List ℕ) where
  pub negatives_both : (xs ys : List Edit) (ns ms : List Negative) → AreNegatives g w xs ns → AreNegatives g w ys ms → AreNegatives g w (xs ++ ys) (ns ++ ms)
  negatives_both [] ys ns ms h k = subst (λ (l : List Negative). AreNegatives g w ys l) (sym (ap (λ (l : List Negative). l ++ ms) h)) k
  negatives_both (e ∷ xs) ys ns ms h k = elim h [
    | inl p ↦ inl (p.0, negatives_both xs ys ns ms p.1 k)
    | inr p ↦ inr (p.0, p.1 ++ ms, ap (λ (l : List Negative). l ++ ms) p.2, p.3, p.4, negatives_both xs ys p.1 ms p.5 k)
  ]

  pub negatives_split : (xs ys : List Edit) (ns : List Negative) → AreNegatives g w (xs ++ ys) ns
      → (a : List Negative) × (b : List Negative) × (ns ≡ a ++ b) × AreNegatives g w xs a × AreNegatives g w ys b
  negatives_split [] ys ns are = ([], ns, refl, refl, are)
  negatives_split (e ∷ xs) ys ns are = elim are [
    | inl p ↦ let s = negatives_split xs ys ns p.1 in (s.0, s.1, s.2, inl (p.0, s.3), s.4)
    | inr p ↦
        let s = negatives_split xs ys p.1 p.5 in
        (p.0 ∷ s.0, s.1, p.2 ∙ ap (λ (l : List Negative). p.0 ∷ l) s.2, inr (p.0, s.0, refl, p.3, p.4, s.3), s.4)
  ]

  -- an edit has one negative at most
  pub few_negatives : (es : List Edit) (ns : List Negative) → AreNegatives g w es ns → length ns ≤ length es
  few_negatives [] ns are = let none = ap (λ (l : List Negative). length l) are in omega (arith, none)
  few_negatives (e ∷ es) ns are = elim are [
    | inl p ↦ let few = few_negatives es ns p.1 in omega (arith, few)
    | inr p ↦ let few = few_negatives es p.1 p.5 in omega (arith, few, ap (λ (l : List Negative). length l) p.2)
  ]

-- ---- kept ones of negatives

-- behind these and more
pub behind_more : (before rest : List Negative) (n : Negative) → before ++ n ∷ rest ≡ (before ++ n ∷ []) ++ rest
behind_more before rest n = sym (append_assoc before (n ∷ []) rest)

module _ (g : PlainGrammar) (w : List ℕ) (first : Option ℕ) where
  pub one_kept : (before ns a b : List Negative) → AreKept g w first before ns a → AreKept g w first before ns b → a ≡ b
  one_kept before [] a b p q = p ∙ sym q
  one_kept before (n ∷ ns) a b p q = elim p [
    | inl x ↦ elim q [
      | inl y ↦ one_kept before ns a b x.1 y.1
      | inr y ↦ absurd (x.0 y.0)
    ]
    | inr x ↦ elim q [
      | inl y ↦ absurd (y.0 x.0)
      | inr y ↦ x.2 ∙ ap (λ (l : List Negative). n ∷ l) (one_kept (before ++ n ∷ []) ns x.1 y.1 x.3 y.3) ∙ sym y.2
    ]
  ]

  pub some_kept : (before ns : List Negative) → HasSomeKept g w first before ns
  some_kept before [] none = none [] refl
  some_kept before (n ∷ ns) none =
      some_kept before ns
      (λ kept are. none kept (inl ((λ is. some_kept (before ++ n ∷ []) ns (λ rest others. none (n ∷ rest) (inr (is, rest, refl, others)))), are)))

  pub few_kept_ones : (before ns kept : List Negative) → AreKept g w first before ns kept → length kept ≤ length ns
  few_kept_ones before [] kept are = let none = ap (λ (l : List Negative). length l) are in omega (arith, none)
  few_kept_ones before (n ∷ ns) kept are = elim are [
    | inl p ↦ let few = few_kept_ones before ns kept p.1 in omega (arith, few)
    | inr p ↦ let few = few_kept_ones (before ++ n ∷ []) ns p.1 p.3 in omega (arith, few, ap (λ (l : List Negative). length l) p.2)
  ]

  both_kept : (before ns ms ks ls : List Negative) → AreKept g w first before ns ks → AreKept g w first (before ++ ks) ms ls → AreKept g w first before (ns ++ ms) (ks ++ ls)
  both_kept before [] ms ks ls h k =
      subst (λ (l : List Negative). AreKept g w first before ms (l ++ ls)) (sym h)
      (subst (λ (l : List Negative). AreKept g w first l ms ls) (ap (λ (l : List Negative). before ++ l) h ∙ append-nil before) k)
  both_kept before (n ∷ ns) ms ks ls h k = elim h [
    | inl p ↦ inl (p.0, both_kept before ns ms ks ls p.1 k)
    | inr p ↦
        let behind : before ++ ks ≡ (before ++ n ∷ []) ++ p.1 = ap (λ (l : List Negative). before ++ l) p.2 ∙ behind_more before p.1 n in
        inr (p.0, p.1 ++ ls, ap (λ (l : List Negative). l ++ ls) p.2, both_kept (before ++ n ∷ []) ns ms p.1 ls p.3 (subst (λ (l : List Negative). AreKept g w first l ms ls) behind k))
  ]

  split_kept : (before ns ms ks : List Negative) → AreKept g w first before (ns ++ ms) ks
      → (a : List Negative) × (b : List Negative) × (ks ≡ a ++ b) × AreKept g w first before ns a × AreKept g w first (before ++ a) ms b
  split_kept before [] ms ks are = ([], ks, refl, refl, subst (λ (l : List Negative). AreKept g w first l ms ks) (sym (append-nil before)) are)
  split_kept before (n ∷ ns) ms ks are = elim are [
    | inl p ↦ let s = split_kept before ns ms ks p.1 in (s.0, s.1, s.2, inl (p.0, s.3), s.4)
    | inr p ↦
        let s = split_kept (before ++ n ∷ []) ns ms p.1 p.3 in
        (n ∷ s.0, s.1, p.2 ∙ ap (λ (l : List Negative). n ∷ l) s.2, inr (p.0, s.0, refl, s.3), subst (λ (l : List Negative). AreKept g w first l ms s.1) (sym (behind_more before s.0 n)) s.4)
  ]

  -- each is one of the negatives
  single : (f : Option ℕ) (before : List Negative) (n : Negative) → IsKept g w f before n → IsSingle g w f n
  single None before n is = tt
  single (Some most) before n is = is.0

  of_those : (before ns kept : List Negative) → AreKept g w first before ns kept → (n : Negative) → Among n kept → Among n ns × IsSingle g w first n
  of_those before [] kept are n h = absurd (subst (λ (l : List Negative). Among n l) are h)
  of_those before (m ∷ ns) kept are n h = elim are [
    | inl p ↦ let r = of_those before ns kept p.1 n h in (inr r.0, r.1)
    | inr p ↦
        ⊎_elim (λ here. (inl here, subst (IsSingle g w first) (sym here) (single first before m p.0)))
        (λ later. let r = of_those (before ++ m ∷ []) ns p.1 p.3 n later in (inr r.0, r.1))
        (subst (λ (l : List Negative). Among n l) p.2 h)
  ]

  pub are_of_those : AreOfThose g w first
  are_of_those before ns kept are n h =
      let r = of_those before ns kept are n (Among-from_Contains n kept h) in
      (Contains-from_Among n ns r.0, r.1)

  pub are_outside : AreOutside g w first
  are_outside es before ns kept all are n h sentence =
      let negative = ((members g w es ns n all).0 (are_of_those before ns kept are n h).0).1 in
      outside g (edited w n.edit) n.at (n.left, n.right, negative) sentence

-- without a number all are kept
pub keeps_all : (g : PlainGrammar) (w : List ℕ) (before ns kept : List Negative) → AreKept g w None before ns kept → kept ≡ ns
keeps_all g w before [] kept are = are
keeps_all g w before (n ∷ ns) kept are = elim are [
  | inl p ↦ absurd (p.0 tt)
  | inr p ↦ p.2 ∙ ap (λ (l : List Negative). n ∷ l) (keeps_all g w (before ++ n ∷ []) ns p.1 p.3)
]

-- ---- and of edits

module _ (g : PlainGrammar) (w : List ℕ) (first : Option ℕ) where
  pub kept_none : (before : List Negative) → AreKeptOf g w first before [] []
  kept_none before = record { negatives = []; all = refl; are_kept = refl }

  pub one_kept_of : (before : List Negative) (es : List Edit) (a b : List Negative) → AreKeptOf g w first before es a → AreKeptOf g w first before es b → a ≡ b
  one_kept_of before es a b p q =
      let same = one_list g w es q.negatives p.negatives q.all p.all in
      one_kept g w first before p.negatives a b p.are_kept (subst (λ (ns : List Negative). AreKept g w first before ns b) same q.are_kept)

  pub few_kept_of : (before : List Negative) (es : List Edit) (kept : List Negative) → AreKeptOf g w first before es kept → length kept ≤ length es
  few_kept_of before es kept are =
      omega (arith, few_negatives g w es are.negatives are.all, few_kept_ones g w first before are.negatives kept are.are_kept)

  pub kept_both : (before : List Negative) (xs ys : List Edit) (ks ls : List Negative) → AreKeptOf g w first before xs ks → AreKeptOf g w first (before ++ ks) ys ls → AreKeptOf g w first before (xs ++ ys) (ks ++ ls)
  kept_both before xs ys ks ls p q = record {
    negatives = p.negatives ++ q.negatives;
    all = negatives_both g w xs ys p.negatives q.negatives p.all q.all;
    are_kept = both_kept g w first before p.negatives q.negatives ks ls p.are_kept q.are_kept;
  }

  pub kept_split : (before : List Negative) (xs ys : List Edit) (ks : List Negative) → AreKeptOf g w first before (xs ++ ys) ks
      → (a : List Negative) × (b : List Negative) × (ks ≡ a ++ b) × AreKeptOf g w first before xs a × AreKeptOf g w first (before ++ a) ys b
  kept_split before xs ys ks are =
      let s = negatives_split g w xs ys are.negatives are.all in
      let k = split_kept g w first before s.0 s.1 ks (subst (λ (ns : List Negative). AreKept g w first before ns ks) s.2 are.are_kept) in
      (k.0, k.1, k.2, record { negatives = s.0; all = s.3; are_kept = k.3 }, record { negatives = s.1; all = s.4; are_kept = k.4 })

  -- dropped edits in front of others
  pub kept_begins : (before : List Negative) (skipped rest : List Edit) (kept : List Negative) → All (IsDropped g w first before) skipped → AreKeptOf g w first before rest kept → AreKeptOf g w first before (skipped ++ rest) kept
  kept_begins before [] rest kept dropped are = are
  kept_begins before (e ∷ skipped) rest kept dropped are =
      let others = kept_begins before skipped rest kept (All-tail (IsDropped g w first before) e skipped dropped) are in
      elim (All-head (IsDropped g w first before) e skipped dropped) [
        | inl harmless ↦ record { negatives = others.negatives; all = inl (harmless, others.all); are_kept = others.are_kept }
        | inr h ↦ record {
          negatives = h.0 ∷ others.negatives;
          all = inr (h.0, others.negatives, refl, h.1, h.2, others.all);
          are_kept = inl (h.3, others.are_kept);
        }
      ]

  -- where each is dropped none is kept
  pub kept_done : (before : List Negative) (es : List Edit) → All (IsDropped g w first before) es → AreKeptOf g w first before es []
  kept_done before es dropped =
      subst (λ (l : List Edit). AreKeptOf g w first before l []) (append-nil es) (kept_begins before es [] [] dropped (kept_none before))

  -- the next one, and the edits up to it
  pub kept_next : (before : List Negative) (old : List Edit) (n : Negative) (new : List Edit) (next : IsNextKept g w first before old n new) → AreKeptOf g w first before (next.skipped ++ n.edit ∷ []) (n ∷ [])
  kept_next before old n new next =
      kept_begins before next.skipped (n.edit ∷ []) (n ∷ []) next.dropped (record {
        negatives = n ∷ [];
        all = inr (n, [], refl, refl, next.negative, refl);
        are_kept = inr (next.kept, [], refl, refl);
      })
