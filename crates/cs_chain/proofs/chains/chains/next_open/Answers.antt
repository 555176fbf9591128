-- All chains of a context goal are left when it is opened, and one whose inner rule isn't there has none.
use Rattle.std.proofs.Common.{◌≡◌, ◌∷◌, ◌++◌, List, length, ap, ◌∙◌, arith}
use Rattle.std.specs.List.{flat_map}
use Rattle.cs_goals.specs.declared.goal.Goal.{Goal}
use Rattle.cs_chain.specs.declared.chains.chain.Chain.{Chain}
use Rattle.cs_chain.specs.Chains.Chains.{chains_from}
use Rattle.cs_chain.proofs.OnChains.Under.{no_chains_through}
use Rattle.cs_chain.proofs.OnChains.Left.{all_left}
use Rattle.cs_chain.proofs.chains.chains.next_open.Goals as goal

pub returns-in-Some-get_rule-clause-opens : goal.returns-in-Some-get_rule-clause-opens
returns-in-Some-get_rule-clause-opens c =
    let g = c.args.grammar.now in
    let taken : c.loop-goal.contexts ≡ c.in-Some.goal ∷ c.next.new.self = c.in-Some.ensures.some in
    let rest = flat_map (chains_from g) c.next.new.self in (
      c.loop-goal.invariant.0
          ∙ ap (λ (l : List Goal). flat_map (chains_from g) l) taken
          ∙ ap (λ (k : Goal). chains_from g k ++ rest) c.in-Context.is
          ∙ ap (λ (l : List Chain). l ++ rest) (all_left g c.in-Context.outer c.in-Context.place c.in-Context.inner c.in-Some-get_rule.rule.now c.in-Some-get_rule.ensures.some),
      omega (arith, c.loop-goal.invariant.1, ap (λ (l : List Goal). length l) taken),
    )

pub loop-goal-preserved-in_default-get_rule : goal.loop-goal-preserved-in_default-get_rule
loop-goal-preserved-in_default-get_rule c =
    let g = c.args.grammar.now in
    let taken : c.loop-goal.contexts ≡ c.in-Some.goal ∷ c.next.new.self = c.in-Some.ensures.some in
    let rest = flat_map (chains_from g) c.next.new.self in (
      c.loop-goal.invariant.0
          ∙ ap (λ (l : List Goal). flat_map (chains_from g) l) taken
          ∙ ap (λ (k : Goal). chains_from g k ++ rest) c.in-Context.is
          ∙ ap (λ (l : List Chain). l ++ rest) (no_chains_through g c.in-Context.outer c.in-Context.place c.in-Context.inner c.in_default-get_rule.ensures.none),
      omega (arith, c.loop-goal.invariant.1, ap (λ (l : List Goal). length l) taken),
    )
