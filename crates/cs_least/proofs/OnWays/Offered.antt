-- Candidates that are offered: pushed onto the heap where they come before what is known.
use Rattle.std.proofs.Common.{◌≡◌, ◌≢◌, ◌⊎◌, ℕ, ◌+◌, ◌-◌, ◌≤◌, true, List, ◌∷◌, Option, Some, None, length, get_or, refl, sym, ap, ◌∙◌, subst, ⊎_elim, inl, inr, arith}
use Rattle.std.specs.BinaryHeap.{IsHeap, lt_by_cmp}
use Rattle.std.specs.declared.cmp.Reverse.{Reverse}
use Rattle.std.proofs.Math.ListN.{set, length-set}
use Rattle.std.proofs.lemmas.Bool.{cases_eq, false≢true}
use Rattle.std.proofs.lemmas.List.{get_or-set_same, get_or-set_other}
use Rattle.std.proofs.lemmas.List.Sorted.{Contains-permutation, IsPermutation-sym, length_permutation}
use Rattle.cs_least.specs.declared.ways.candidate.Candidate.{Candidate}
use Rattle.cs_least.specs.declared.ways.reach.Reach.{Reach}
use Rattle.cs_least.specs.Ways.Ways.{IsNode, reach_at}
use Rattle.cs_least.specs.Ways.Candidates.{order, is_known}
use Rattle.cs_least.specs.Ways.Search.{Holds, IsAhead, IsToldAhead, IsCovered, IsKnown, IsOffered, AreOffered}
use Rattle.cs_least.proofs.OnWays.Ahead.{ahead_trans, ahead_from_test, ahead_itself}
use Rattle.cs_least.proofs.OnWays.Holding.{contains_first, contains_later, contains_cases, inside}

module _ (limit : ℕ) (table : List Reach) where
  -- what is covered stays covered where the heap holds more
  pub covered_more : (heap last : List (Reverse Candidate)) (c : Candidate) → ((d : Candidate) → Holds heap d → Holds last d) → IsCovered limit table heap c → IsCovered limit table last c
  covered_more heap last c kept covered = elim covered [ inl told ↦ inl told | inr w ↦ inr (w.0, kept w.0 w.1, w.2, w.3) ]

  -- and what comes no earlier, of the same node, is covered too
  pub covered_further : (heap : List (Reverse Candidate)) (c e : Candidate) → c.node ≡ e.node → IsAhead limit c.cost c.origin e.cost e.origin → IsCovered limit table heap c → IsCovered limit table heap e
  covered_further heap c e same ahead covered = elim covered [
    | inl told ↦ inl (ahead_trans limit _ _ c.cost c.origin e.cost e.origin (subst (λ n. IsToldAhead limit (reach_at table n) c) same told) ahead)
    | inr w ↦ inr (w.0, w.1, w.2 ∙ same, ahead_trans limit w.0.cost w.0.origin c.cost c.origin e.cost e.origin w.3 ahead)
  ]

module _ (limit : ℕ) where
  pub known_ahead : (best : Option Candidate) (c : Candidate) → is_known best c ≡ true → (b : Candidate) × (best ≡ Some b) × IsAhead limit b.cost b.origin c.cost c.origin
  known_ahead None c e = absurd (false≢true e)
  known_ahead (Some b) c e = (b, refl, ahead_from_test limit b c (lt_by_cmp order (record { 0 = b }) (record { 0 = c })) refl e)

  -- one candidate is offered
  pub offered_one : (c : Candidate) (known : List (Option Candidate)) (heap : List (Reverse Candidate)) (known' : List (Option Candidate)) (last : List (Reverse Candidate)) → IsNode (length known) c.node → c.cost ≤ limit + 1 → IsOffered c known heap known' last → AreOffered limit (λ (d : Candidate). c ≡ d) 1 known heap known' last
  offered_one c known heap known' last node low offered = elim offered [
    | inl was ↦
        let best = known_ahead (get_or known (c.node - 1) None) c was.was in
        record {
          size = ap length was.same;
          order = λ h. subst (IsHeap order) (sym was.waits) h;
          count = omega (arith, ap length was.waits);
          kept = λ d h. subst (λ (l : List (Reverse Candidate)). Holds l d) (sym was.waits) h;
          only = λ d h. inl (subst (λ (l : List (Reverse Candidate)). Holds l d) was.waits h);
          knows = λ table k. subst (λ (l : List (Reverse Candidate)). IsKnown limit table known' l) (sym was.waits) (subst (λ (l : List (Option Candidate)). IsKnown limit table l heap) (sym was.same) k);
          each = λ table k d e.
              let b = best.0 in
              let same : b.node ≡ c.node = omega (arith, k.node (c.node - 1) b best.1, node.0) in
              let here : IsCovered limit table heap c = covered_further limit table heap b c same best.2 (k.covered (c.node - 1) b best.1) in
              subst (λ (l : List (Reverse Candidate)). IsCovered limit table l d) (sym was.waits) (subst (IsCovered limit table heap) e here);
        }
    | inr now ↦
        let top : Reverse Candidate = record { 0 = c } in
        let back = IsPermutation-sym (top ∷ heap) last now.pushed in
        let holds : Holds last c = Contains-permutation (top ∷ heap) last top now.pushed (contains_first top heap) in
        let stays : (d : Candidate) → Holds heap d → Holds last d = λ d h. Contains-permutation (top ∷ heap) last (record { 0 = d }) now.pushed (contains_later top (record { 0 = d }) heap h) in
        let covers : (table : List Reach) → IsCovered limit table last c = λ table. inr (c, holds, refl, ahead_itself limit c.cost c.origin) in
        let read : (p : ℕ) (d : Candidate) → get_or known' p None ≡ Some d → ((p ≡ c.node - 1) × (c ≡ d)) ⊎ (get_or known p None ≡ Some d) = λ p d e.
        ⊎_elim
        (λ same.
        let there : get_or known' p None ≡ Some c = ap (λ (l : List (Option Candidate)). get_or l p None) now.written ∙ ap (λ k. get_or (set known (c.node - 1) (Some c)) k None) same ∙ get_or-set_same known (c.node - 1) (Some c) None (omega (arith, node)) in
        let is : c ≡ d = cc (there, e) in
        inl (same, is))
        (λ other.
        let apart : p ≢ c.node - 1 = other in
        inr (sym (get_or-set_other known (c.node - 1) p (Some c) None apart) ∙ sym (ap (λ (l : List (Option Candidate)). get_or l p None) now.written) ∙ e))
        (cases_eq p (c.node - 1)) in
        record {
          size = ap length now.written ∙ length-set known (c.node - 1) (Some c);
          order = now.order;
          count = omega (arith, length_permutation (top ∷ heap) last now.pushed);
          kept = stays;
          only = λ d h. elim (contains_cases top (record { 0 = d }) heap (Contains-permutation last (top ∷ heap) (record { 0 = d }) back h)) [
            | inl here ↦ inr (inside c d here)
            | inr there ↦ inl there
          ];
          knows = λ table k. record {
            node = λ p d e. elim (read p d e) [
              | inl here ↦ omega (arith, here.0, node.0, ap (λ (x : Candidate). x.node) here.1)
              | inr old ↦ k.node p d old
            ];
            cost = λ p d e. elim (read p d e) [
              | inl here ↦ omega (arith, low, ap (λ (x : Candidate). x.cost) here.1)
              | inr old ↦ k.cost p d old
            ];
            covered = λ p d e. elim (read p d e) [
              | inl here ↦ subst (IsCovered limit table last) here.1 (covers table)
              | inr old ↦ covered_more limit table heap last d stays (k.covered p d old)
            ];
          };
          each = λ table k d e. subst (IsCovered limit table last) e (covers table);
        }
  ]

  -- one more, of a kind that has this one besides
  pub offered_more : (P Q : Candidate → Type 0) (many : ℕ) (known : List (Option Candidate)) (heap : List (Reverse Candidate)) (known' : List (Option Candidate)) (mid : List (Reverse Candidate)) (known'' : List (Option Candidate)) (last : List (Reverse Candidate)) (c : Candidate) → ((d : Candidate) → P d → Q d) → Q c → ((d : Candidate) → Q d → P d ⊎ (c ≡ d)) → AreOffered limit (λ (d : Candidate). c ≡ d) 1 known' mid known'' last → AreOffered limit P many known heap known' mid → AreOffered limit Q (many + 1) known heap known'' last
  offered_more P Q many known heap known' mid known'' last c wider this other one so_far = record {
    size = one.size ∙ so_far.size;
    order = λ h. one.order (so_far.order h);
    count = omega (arith, so_far.count, one.count);
    kept = λ d h. one.kept d (so_far.kept d h);
    only = λ d h. elim (one.only d h) [
      | inl before ↦ elim (so_far.only d before) [ inl first ↦ inl first | inr kind ↦ inr (wider d kind) ]
      | inr here ↦ inr (subst Q here this)
    ];
    knows = λ table k. one.knows table (so_far.knows table k);
    each = λ table k d kind. elim (other d kind) [
      | inl before ↦ covered_more limit table mid last d one.kept (so_far.each table k d before)
      | inr here ↦ one.each table (so_far.knows table k) d here
    ];
  }

  pub offered_same : (P Q : Candidate → Type 0) (j k : ℕ) (known : List (Option Candidate)) (heap : List (Reverse Candidate)) (known' : List (Option Candidate)) (last : List (Reverse Candidate)) → j ≡ k → ((d : Candidate) → P d → Q d) → ((d : Candidate) → Q d → P d) → AreOffered limit P j known heap known' last → AreOffered limit Q k known heap known' last
  offered_same P Q j k known heap known' last same to from offered = record {
    size = offered.size;
    order = offered.order;
    count = omega (arith, same, offered.count);
    kept = offered.kept;
    only = λ d h. elim (offered.only d h) [ inl before ↦ inl before | inr now ↦ inr (to d now) ];
    knows = offered.knows;
    each = λ table h d q. offered.each table h d (from d q);
  }
