-- A chain has one verdict.
use Rattle.std.proofs.Common.{◌≡◌, ℕ, List, refl, sym, ap, ◌∙◌, arith}
use Rattle.cs_grammar.specs.Grammar.{PlainGrammar}
use Rattle.cs_grammar.specs.Weights.{Measure}
use Rattle.cs_grammar.specs.Tree.{code}
use Rattle.cs_chain.specs.declared.chains.chain.Chain.{Chain}
use Rattle.cs_chain.specs.declared.judging.verdict.ChainVerdict.{ChainVerdict}
use Rattle.cs_chain.specs.declared.judging.verdict.ChainVerdict.TheVariants.{Feasible, Infeasible, Large}
use Rattle.cs_chain.specs.Judging.Verdict.{IsVerdict}
use Rattle.cs_chain.proofs.OnJudging.Chosen.{one_chosen}

module _ (w : Measure) (g : PlainGrammar) (c : Chain) where
  pub one_verdict : (v o : ChainVerdict) → IsVerdict w g c v → IsVerdict w g c o → v ≡ o
  one_verdict Infeasible Infeasible h k = refl
  one_verdict Infeasible Large h k = absurd (h k.0 k.1)
  one_verdict Infeasible (Feasible n d) h k = absurd (h k.1.reached.0 k.1.reached.1)
  one_verdict Large Infeasible h k = absurd (k h.0 h.1)
  one_verdict Large Large h k = refl
  one_verdict Large (Feasible n d) h k = absurd (omega (arith, h.2 k.1.reached.0 k.1.reached.1, k.0, k.1.reached.2))
  one_verdict (Feasible m d) Infeasible h k = absurd (k h.1.reached.0 h.1.reached.1)
  one_verdict (Feasible m d) Large h k = absurd (omega (arith, k.2 h.1.reached.0 h.1.reached.1, h.0, h.1.reached.2))
  one_verdict (Feasible m d) (Feasible n e) h k =
      let sizes_same : m ≡ n = omega (arith, h.1.least k.1.reached.0 k.1.reached.1, k.1.least h.1.reached.0 h.1.reached.1, h.1.reached.2, k.1.reached.2) in
      let codes_same : d ≡ e = h.2.2 ∙ ap code (one_chosen w g c h.2.0 k.2.0 h.2.1 k.2.1) ∙ sym k.2.2 in
      ap (λ j. Feasible j d) sizes_same ∙ ap (λ (l : List ℕ). Feasible n l) codes_same
