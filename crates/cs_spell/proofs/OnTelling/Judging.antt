-- Verdicts of rule goals, one after another.
use Rattle.std.proofs.Common.{◌≡◌, ℕ, suc, ◌+◌, ◌-◌, ◌<◌, List, [], ◌∷◌, ◌++◌, Some, inl, inr, sym, subst, arith, length, get_or}
use Rattle.std.specs.Prelude.{slice_get}
use Rattle.std.proofs.lemmas.Option.{slice_get-get_or}
use Rattle.cs_goals.specs.Goal.{IsGoal}
use Rattle.cs_goals.specs.declared.goal.Goal.{Goal}
use Rattle.cs_goals.specs.declared.goal.Goal.TheVariants.{Rule}
use Rattle.cs_grammar.specs.Grammar.{PlainGrammar, Production}
use Rattle.cs_grammar.specs.Tree.{IsDerivationOf}
use Rattle.cs_grammar.specs.Weights.{Weighed}
use Rattle.cs_scanner.proofs.OnLexeme.Lists.{at_pushed}
use Rattle.cs_spell.specs.Telling.Chosen.{IsRuleVerdict, RuleVerdict}
use Rattle.cs_verdicts.specs.Positive.Verdict.{IsVerdictIn}
use Rattle.cs_verdicts.specs.declared.positive.verdict.Verdict.{Verdict}
use Rattle.cs_verdicts.specs.declared.positive.verdict.Verdict.TheVariants.{Feasible}
use Rattle.cs_verdicts.proofs.OnPositive.Verdicts.{chosen_met}

-- the rule at a place has a goal
pub goal_at : (g : PlainGrammar) (place rule : ℕ) → place < length g.rules → rule ≡ place + 1 → IsGoal g (Rule rule)
goal_at g place rule less is =
    let none : Production = record { left = 0; right = [] } in
    let e : place ≡ rule - 1 = omega (arith, is) in
    let its = get_or g.rules place none in (
      its,
      record {
        above_zero = omega (arith, is);
        at = subst (λ (n : ℕ). slice_get g.rules n ≡ Some its) e (slice_get-get_or g.rules place none less);
      },
    )

-- the derivation of a feasible goal is one of the grammar
pub derivation_of : (v : Weighed) (goal : Goal) (verdict : Verdict) (n : ℕ) (derivation : List ℕ) → verdict ≡ Feasible n derivation → IsVerdictIn v goal verdict → IsDerivationOf v.grammar derivation
derivation_of v goal verdict n derivation e h =
    let f : IsVerdictIn v goal (Feasible n derivation) = subst (IsVerdictIn v goal) e h in
    (f.2.0, (chosen_met v.weights v.grammar goal f.2.0 f.2.1).0, f.2.2)

pub judge_more : (v : Weighed) (judged : List RuleVerdict) (x : RuleVerdict) (place : ℕ) → length judged ≡ place → IsRuleVerdict v (place + 1) x → ((k : ℕ) (j : RuleVerdict) → slice_get judged k ≡ Some j → IsRuleVerdict v (suc k) j) → (k : ℕ) (j : RuleVerdict) → slice_get (judged ++ x ∷ []) k ≡ Some j → IsRuleVerdict v (suc k) j
judge_more v judged x place all is each k j at =
    elim (at_pushed judged x j k at) [
      | inl old ↦ each k j old
      | inr new ↦
          let e : place + 1 ≡ suc k = omega (arith, new.0, all) in
          subst (IsRuleVerdict v (suc k)) (sym new.1) (subst (λ (n : ℕ). IsRuleVerdict v n x) e is)
    ]
