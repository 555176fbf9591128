-- A goal has one verdict, and its chosen tree is a least one that meets it.
use Rattle.std.proofs.Common.{◌≡◌, ℕ, ◌≤◌, List, refl, sym, ap, ◌∙◌, arith}
use Rattle.cs_grammar.specs.Grammar.{PlainGrammar}
use Rattle.cs_grammar.specs.Weights.{Measure}
use Rattle.cs_grammar.specs.Tree.{Tree, size, code}
use Rattle.cs_goals.specs.declared.goal.Goal.{Goal}
use Rattle.cs_goals.specs.declared.goal.Goal.TheVariants.{Rule, Context, Pair}
use Rattle.cs_goals.specs.Goal.{IsGoal}
use Rattle.cs_pairs.proofs.OnPairs.ChosenPairs.{one_pair, pair_exists, pair_has, pair_least}
use Rattle.cs_verdicts.specs.declared.positive.verdict.Verdict.{Verdict}
use Rattle.cs_verdicts.specs.declared.positive.verdict.Verdict.TheVariants.{Feasible, Infeasible, Large}
use Rattle.cs_verdicts.specs.Positive.Verdict.{IsMet, IsChosenOf, IsVerdict}
use Rattle.cs_verdicts.proofs.OnPositive.RuleGoals.{rule_met, rule_least, one_of_rule, rule_exists}
use Rattle.cs_verdicts.proofs.OnPositive.ContextGoals.{context_met, context_least, one_of_context, context_exists}

module _ (w : Measure) (g : PlainGrammar) where
  pub chosen_met : (goal : Goal) (u : Tree) → IsChosenOf w g goal u → IsMet g goal u
  chosen_met (Rule r) u h = rule_met w g r u h
  chosen_met (Context p i q) u h = context_met w g p i q u h
  chosen_met (Pair a b) u h = pair_has w g a b u h

  pub chosen_least_of : (goal : Goal) (t u : Tree) → IsMet g goal t → IsChosenOf w g goal u → size w u ≤ size w t
  chosen_least_of (Rule r) t u h k = rule_least w g r t u h k
  chosen_least_of (Context p i q) t u h k = context_least w g p i q t u h k
  chosen_least_of (Pair a b) t u h k = pair_least w g a b t u h k

  pub one_chosen_of : (goal : Goal) (t u : Tree) → IsChosenOf w g goal t → IsChosenOf w g goal u → t ≡ u
  one_chosen_of (Rule r) t u h k = one_of_rule w g r t u h k
  one_chosen_of (Context p i q) t u h k = one_of_context w g p i q t u h k
  one_chosen_of (Pair a b) t u h k = one_pair w g a b t u h k

  pub chosen_exists_of : (goal : Goal) (t : Tree) → IsGoal g goal → IsMet g goal t → (u : Tree) × IsChosenOf w g goal u
  chosen_exists_of (Rule r) t is h = rule_exists w g r t h
  chosen_exists_of (Context p i q) t is h = context_exists w g p i q t h
  chosen_exists_of (Pair a b) t is h = pair_exists w g a b t is.0 is.1 h

  pub one_verdict_of : (goal : Goal) (v o : Verdict) → IsVerdict w g goal v → IsVerdict w g goal o → v ≡ o
  one_verdict_of goal Infeasible Infeasible h k = refl
  one_verdict_of goal Infeasible Large h k = absurd (h k.0 k.1)
  one_verdict_of goal Infeasible (Feasible n d) h k = absurd (h k.1.reached.0 k.1.reached.1)
  one_verdict_of goal Large Infeasible h k = absurd (k h.0 h.1)
  one_verdict_of goal Large Large h k = refl
  one_verdict_of goal Large (Feasible n d) h k = absurd (omega (arith, h.2 k.1.reached.0 k.1.reached.1, k.0, k.1.reached.2))
  one_verdict_of goal (Feasible m d) Infeasible h k = absurd (k h.1.reached.0 h.1.reached.1)
  one_verdict_of goal (Feasible m d) Large h k = absurd (omega (arith, k.2 h.1.reached.0 h.1.reached.1, h.0, h.1.reached.2))
  one_verdict_of goal (Feasible m d) (Feasible n e) h k =
      let sizes_same : m ≡ n = omega (arith, h.1.least k.1.reached.0 k.1.reached.1, k.1.least h.1.reached.0 h.1.reached.1, h.1.reached.2, k.1.reached.2) in
      let codes_same : d ≡ e = h.2.2 ∙ ap code (one_chosen_of goal h.2.0 k.2.0 h.2.1 k.2.1) ∙ sym k.2.2 in
      ap (λ j. Feasible j d) sizes_same ∙ ap (λ (l : List ℕ). Feasible n l) codes_same
