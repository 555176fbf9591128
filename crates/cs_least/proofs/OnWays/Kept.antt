-- The first of the beginnings at each node, and the heap that is made of them.
use Rattle.std.proofs.Common.{◌≡◌, ◌⊎◌, ℕ, ◌+◌, ◌-◌, ◌<◌, false, List, [], ◌∷◌, Option, Some, None, length, replicate, get_or, refl, sym, ap, ◌∙◌, subst, ⊎_elim, inl, inr, arith}
use Rattle.std.specs.BinaryHeap.{IsHeap, lt_by_cmp}
use Rattle.std.specs.List.Sorted.{IsPermutation}
use Rattle.std.specs.declared.cmp.Reverse.{Reverse}
use Rattle.std.proofs.Math.ListN.{set, length-set}
use Rattle.std.proofs.lemmas.Bool.{cases_eq, cases_lt}
use Rattle.std.proofs.lemmas.List.{length-replicate, get_or-set_same, get_or-set_other, get_or_past}
use Rattle.std.proofs.lemmas.List.Sorted.{Contains-permutation, IsPermutation-sym}
use Rattle.cs_least.specs.declared.ways.step.Source.{Source}
use Rattle.cs_least.specs.declared.ways.candidate.Candidate.{Candidate}
use Rattle.cs_least.specs.Ways.Ways.{IsNode}
use Rattle.cs_least.specs.Ways.Candidates.{order, is_known, IsBeginning}
use Rattle.cs_least.specs.Ways.Search.{Holds, IsAhead, IsKept, AreFirsts, HoldsUpTo, AreOffered}
use Rattle.cs_least.proofs.OnWays.Ahead.{ahead_trans, ahead_from_less, ahead_itself}
use Rattle.cs_least.proofs.OnWays.Holding.{contains_none, contains_first, contains_later, contains_cases, inside}
use Rattle.cs_least.proofs.OnWays.Offered.{known_ahead}
use Rattle.cs_least.proofs.OnWays.Searching.{none_yet}

entry_within : (known : List (Option Candidate)) (p : ℕ) (c : Candidate) → get_or known p none_yet ≡ Some c → p < length known
entry_within known p c e =
    ⊎_elim (λ lt. lt)
    (λ past. let none = get_or_past known p none_yet past in absurd cc)
    (cases_lt p (length known))

pub kept_size : (c : Candidate) (known known' : List (Option Candidate)) → IsKept c known known' → length known' ≡ length known
kept_size c known known' kept = elim kept [
  | inl was ↦ ap length was.1
  | inr now ↦ ap length now.written ∙ length-set known (c.node - 1) (Some c)
]

module _ (limit : ℕ) where
  -- what was known and isn't any more came no earlier
  newer_ahead : (best : Option Candidate) (b c : Candidate) → best ≡ Some b → is_known best c ≡ false → IsAhead limit c.cost c.origin b.cost b.origin
  newer_ahead None b c e h = absurd cc
  newer_ahead (Some a) b c e h =
      let same : a ≡ b = cc in
      subst (λ (d : Candidate). IsAhead limit c.cost c.origin d.cost d.origin) same (ahead_from_less limit a c (lt_by_cmp order (record { 0 = a }) (record { 0 = c })) refl h)

  -- one more, of a kind that has this one besides
  pub firsts_more : (P Q : Candidate → Type 0) (known known' : List (Option Candidate)) (c : Candidate) → ((d : Candidate) → P d → Q d) → Q c → ((d : Candidate) → Q d → P d ⊎ (c ≡ d)) → IsNode (length known) c.node → IsKept c known known' → AreFirsts limit P known → AreFirsts limit Q known'
  firsts_more P Q known known' c wider this other node kept so_far = elim kept [
    | inl was ↦
        let best = known_ahead limit (get_or known (c.node - 1) None) c was.0 in
        let same : best.0.node ≡ c.node = omega (arith, so_far.node (c.node - 1) best.0 best.1, node.0) in
        let here : AreFirsts limit Q known = record {
          kind = λ p d e. wider d (so_far.kind p d e);
          node = so_far.node;
          each = λ d q. elim (other d q) [
            | inl before ↦ so_far.each d before
            | inr is ↦ subst (λ (e : Candidate). (b : Candidate) × (get_or known (e.node - 1) None ≡ Some b) × (b.node ≡ e.node) × IsAhead limit b.cost b.origin e.cost e.origin) is (best.0, best.1, same, best.2)
          ];
        } in
        subst (AreFirsts limit Q) (sym was.1) here
    | inr now ↦
        let put = set known (c.node - 1) (Some c) in
        let there : get_or put (c.node - 1) None ≡ Some c = get_or-set_same known (c.node - 1) (Some c) None (omega (arith, node)) in
        let read : (p : ℕ) (d : Candidate) → get_or put p None ≡ Some d → ((p ≡ c.node - 1) × (c ≡ d)) ⊎ (get_or known p None ≡ Some d) = λ p d e.
        ⊎_elim
        (λ same. let at : get_or put p None ≡ Some c = ap (λ k. get_or put k None) same ∙ there in let is : c ≡ d = cc (at, e) in inl (same, is))
        (λ apart. inr (sym (get_or-set_other known (c.node - 1) p (Some c) None apart) ∙ e))
        (cases_eq p (c.node - 1)) in
        let here : AreFirsts limit Q put = record {
          kind = λ p d e. elim (read p d e) [ inl is ↦ subst Q is.1 this | inr old ↦ wider d (so_far.kind p d old) ];
          node = λ p d e. elim (read p d e) [ inl is ↦ omega (arith, is.0, node.0, ap (λ (x : Candidate). x.node) is.1) | inr old ↦ so_far.node p d old ];
          each = λ d q. elim (other d q) [
            | inl before ↦
                let old = so_far.each d before in
                ⊎_elim
                (λ same.
                let was : get_or known (c.node - 1) None ≡ Some old.0 = ap (λ k. get_or known k None) (sym same) ∙ old.1 in
                let nodes : c.node ≡ d.node = omega (arith, same, node.0, so_far.node (c.node - 1) old.0 was, old.2) in (
                  c,
                  ap (λ k. get_or put k None) same ∙ there,
                  nodes,
                  ahead_trans limit _ _ _ _ _ _ (newer_ahead (get_or known (c.node - 1) None) old.0 c was now.new) old.3,
                ))
                (λ apart. (old.0, get_or-set_other known (c.node - 1) (d.node - 1) (Some c) None apart ∙ old.1, old.2, old.3))
                (cases_eq (d.node - 1) (c.node - 1))
            | inr is ↦ subst (λ (e : Candidate). (b : Candidate) × (get_or put (e.node - 1) None ≡ Some b) × (b.node ≡ e.node) × IsAhead limit b.cost b.origin e.cost e.origin) is (c, there, refl, ahead_itself limit c.cost c.origin)
          ];
        } in
        subst (AreFirsts limit Q) (sym now.written) here
  ]

  pub firsts_same : (P Q : Candidate → Type 0) (known : List (Option Candidate)) → ((d : Candidate) → P d → Q d) → ((d : Candidate) → Q d → P d) → AreFirsts limit P known → AreFirsts limit Q known
  firsts_same P Q known to from firsts = record {
    kind = λ p d e. to d (firsts.kind p d e);
    node = firsts.node;
    each = λ d q. firsts.each d (from d q);
  }

module _ (known : List (Option Candidate)) where
  pub holds_pass : (n : ℕ) (heap : List (Reverse Candidate)) → get_or known n None ≡ None → HoldsUpTo n known heap → HoldsUpTo (n + 1) known heap
  holds_pass n heap none so_far = record {
    all = λ p c lt e.
        ⊎_elim
        (λ same. let there : get_or known n None ≡ Some c = ap (λ k. get_or known k None) (sym same) ∙ e in absurd cc)
        (λ apart. so_far.all p c (omega (arith, lt, apart)) e)
        (cases_eq p n);
    only = so_far.only;
  }

  pub holds_more : (n : ℕ) (c : Candidate) (heap last : List (Reverse Candidate)) → get_or known n None ≡ Some c → IsPermutation (record { 0 = c } ∷ heap) last → HoldsUpTo n known heap → HoldsUpTo (n + 1) known last
  holds_more n c heap last at pushed so_far =
      let top : Reverse Candidate = record { 0 = c } in
      let back = IsPermutation-sym (top ∷ heap) last pushed in
      let holds : Holds last c = Contains-permutation (top ∷ heap) last top pushed (contains_first top heap) in
      let stays : (d : Candidate) → Holds heap d → Holds last d = λ d h. Contains-permutation (top ∷ heap) last (record { 0 = d }) pushed (contains_later top (record { 0 = d }) heap h) in
      record {
        all = λ p d lt e.
            ⊎_elim
            (λ same.
            let there : get_or known n None ≡ Some d = ap (λ k. get_or known k None) (sym same) ∙ e in
            let is : c ≡ d = cc (there, at) in
            subst (Holds last) is holds)
            (λ apart. stays d (so_far.all p d (omega (arith, lt, apart)) e))
            (cases_eq p n);
        only = λ d h. elim (contains_cases top (record { 0 = d }) heap (Contains-permutation last (top ∷ heap) (record { 0 = d }) back h)) [
          | inl here ↦ (n, subst (λ (e : Candidate). get_or known n None ≡ Some e) (inside c d here) at)
          | inr there ↦ so_far.only d there
        ];
      }

-- all beginnings are offered
pub firsts_offered : (limit : ℕ) (sources : List Source) (nodes : ℕ) (known : List (Option Candidate)) (heap : List (Reverse Candidate)) → length known ≡ nodes → AreFirsts limit (IsBeginning limit sources) known → IsHeap order heap → HoldsUpTo (length known) known heap → AreOffered limit (IsBeginning limit sources) (length heap) (replicate nodes None) [] known heap
firsts_offered limit sources nodes known heap many firsts is_heap holds = record {
  size = many ∙ sym (length-replicate nodes none_yet);
  order = λ h. is_heap;
  count = omega arith;
  kept = λ c h. absurd (contains_none _ h);
  only = λ c h. let at = holds.only c h in inr (firsts.kind at.0 c at.1);
  knows = λ table k. record {
    node = firsts.node;
    cost = λ p c e. let is = firsts.kind p c e in omega (arith, ap (λ (d : Candidate). d.cost) is.3);
    covered = λ p c e. inr (c, holds.all p c (entry_within known p c e) e, refl, ahead_itself limit c.cost c.origin);
  };
  each = λ table k c kind. let b = firsts.each c kind in inr (b.0, holds.all (c.node - 1) b.0 (entry_within known (c.node - 1) b.0 b.1) b.1, b.2, b.3);
}
