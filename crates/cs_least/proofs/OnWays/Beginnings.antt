-- Offering one candidate after another: the beginnings at the sources, and what goes on by the steps.
use Rattle.std.proofs.Common.{◌≡◌, ℕ, ◌+◌, ◌<◌, List, [], ◌∷◌, ◌++◌, Option, Some, length, take, refl, sym, ap, ◌∙◌, subst, ⊎_elim, inl, inr, arith}
use Rattle.std.specs.Prelude.{Contains, slice_get}
use Rattle.std.specs.declared.cmp.Reverse.{Reverse}
use Rattle.std.proofs.lemmas.Bool.{cases_eq}
use Rattle.std.proofs.lemmas.List.{take_all}
use Rattle.std.proofs.lemmas.List.Elements.{Contains-append_left, Contains-push, Contains-push_cases}
use Rattle.std.proofs.lemmas.Option.{slice_get_within}
use Rattle.cs_least.specs.declared.ways.step.Step.{Step}
use Rattle.cs_least.specs.declared.ways.step.Source.{Source}
use Rattle.cs_least.specs.declared.ways.candidate.Candidate.{Candidate}
use Rattle.cs_least.specs.Ways.Ways.{IsNode}
use Rattle.cs_least.specs.Ways.Candidates.{beginning, after, IsBeginning, IsAfter}
use Rattle.cs_least.specs.Ways.Search.{IsOffered, AreOffered, IsKept, AreFirsts}
use Rattle.cs_least.proofs.OnWays.Kept.{firsts_more, firsts_same}
use Rattle.cs_least.proofs.OnWays.Offered.{offered_one, offered_more, offered_same}

-- the beginning at one of the first sources, so many
abbrev pub IsEarlyBeginning : ℕ → List Source → ℕ → Candidate → Type 0
IsEarlyBeginning limit sources n c =
    (i : ℕ) × (s : Source) × (i < n) × (slice_get sources i ≡ Some s) × (c ≡ beginning limit i s)

module _ (limit : ℕ) (sources : List Source) where
  pub beginnings_more : (i : ℕ) (s : Source) (known known' : List (Option Candidate)) → slice_get sources i ≡ Some s → IsNode (length known) s.node → IsKept (beginning limit i s) known known' → AreFirsts limit (IsEarlyBeginning limit sources i) known → AreFirsts limit (IsEarlyBeginning limit sources (i + 1)) known'
  beginnings_more i s known known' at node kept so_far =
      firsts_more limit (IsEarlyBeginning limit sources i) (IsEarlyBeginning limit sources (i + 1)) known known' (beginning limit i s)
      (λ d h. let lt = h.2 in (h.0, h.1, omega arith, h.3, h.4))
      (i, s, omega arith, at, refl)
      (λ d h.
      let lt = h.2 in
      ⊎_elim
      (λ same.
      let there : slice_get sources i ≡ Some h.1 = ap (slice_get sources) (sym same) ∙ h.3 in
      let is : s ≡ h.1 = cc (at, there) in
      inr (ap (λ (t : Source). beginning limit i t) is ∙ ap (λ k. beginning limit k h.1) (sym same) ∙ sym h.4))
      (λ other. inl (h.0, h.1, omega (arith, lt, other), h.3, h.4))
      (cases_eq h.0 i))
      node kept so_far

  pub beginnings_all : (n : ℕ) (known : List (Option Candidate)) → n ≡ length sources → AreFirsts limit (IsEarlyBeginning limit sources n) known → AreFirsts limit (IsBeginning limit sources) known
  beginnings_all n known all firsts =
      firsts_same limit (IsEarlyBeginning limit sources n) (IsBeginning limit sources) known
      (λ d h. (h.0, h.1, h.3, h.4))
      (λ d h. (h.0, h.1, omega (arith, all, slice_get_within sources h.0 h.1 h.2), h.2, h.3))
      firsts

module _ (limit : ℕ) (found : Candidate) (steps : List Step) where
  pub afters_more : (i : ℕ) (s : Step) (known : List (Option Candidate)) (heap : List (Reverse Candidate)) (known' : List (Option Candidate)) (mid : List (Reverse Candidate)) (known'' : List (Option Candidate)) (last : List (Reverse Candidate)) → take (i + 1) steps ≡ take i steps ++ s ∷ [] → IsNode (length known') s.to → IsOffered (after limit found s) known' mid known'' last → AreOffered limit (IsAfter limit found (take i steps)) i known heap known' mid → AreOffered limit (IsAfter limit found (take (i + 1) steps)) (i + 1) known heap known'' last
  afters_more i s known heap known' mid known'' last is node offered so_far =
      rw is
      (offered_more limit (IsAfter limit found (take i steps)) (IsAfter limit found (take i steps ++ s ∷ [])) i known heap known' mid known'' last (after limit found s)
      (λ d h. (h.0, Contains-append_left (take i steps) (s ∷ []) h.0 h.1, h.2))
      (s, Contains-push (take i steps) s, refl)
      (λ d h. elim (Contains-push_cases (take i steps) s h.0 h.1) [
        | inl before ↦ inl (h.0, before, h.2)
        | inr here ↦ inr (ap (λ (t : Step). after limit found t) here ∙ sym h.2)
      ])
      (offered_one limit (after limit found s) known' mid known'' last node (omega arith) offered)
      so_far)

  pub afters_all : (n : ℕ) (known : List (Option Candidate)) (heap : List (Reverse Candidate)) (known' : List (Option Candidate)) (last : List (Reverse Candidate)) → n ≡ length steps → AreOffered limit (IsAfter limit found (take n steps)) n known heap known' last → AreOffered limit (IsAfter limit found steps) (length steps) known heap known' last
  afters_all n known heap known' last all offered =
      let whole : take n steps ≡ steps = take_all n steps (omega (arith, all)) in
      offered_same limit (IsAfter limit found (take n steps)) (IsAfter limit found steps) n (length steps) known heap known' last all
      (λ d h. (h.0, subst (λ (xs : List Step). Contains xs h.0) whole h.1, h.2))
      (λ d h. (h.0, subst (λ (xs : List Step). Contains xs h.0) (sym whole) h.1, h.2))
      offered
