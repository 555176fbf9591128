-- What is left of the list of chains, a chain at a time.
use Rattle.std.proofs.Common.{◌≡◌, ℕ, List, [], ◌∷◌, ◌++◌, Option, Some, None, drop, refl, sym, ap, ◌∙◌}
use Rattle.std.specs.List.{flat_map, enumerate_from}
use Rattle.cs_grammar.specs.Grammar.{Production, PlainGrammar, IsRule}
use Rattle.cs_goals.specs.declared.goal.Goal.{Goal}
use Rattle.cs_goals.specs.declared.goal.Goal.TheVariants.{Context}
use Rattle.cs_goals.specs.Rest.{places_left}
use Rattle.cs_goals.proofs.Remaining.{places_left_none}
use Rattle.cs_chain.specs.declared.chains.chain.Chain.{Chain}
use Rattle.cs_chain.specs.declared.chains.chains.Open.{Open}
use Rattle.cs_chain.specs.Chains.Chains.{chain_of, chained, chains_from}
use Rattle.cs_chain.specs.Chains.Rest.{chains_left, IsKept}
use Rattle.cs_chain.proofs.OnChains.Under.{chained_one, chains_through}

module _ (g : PlainGrammar) (p i q : ℕ) where
  -- where none of a context goal's chains was given, all are left
  pub all_left : (rule : Production) → IsRule g q rule → chains_from g (Context p i q) ≡ flat_map (chained p i q) (places_left g q (drop 0 (enumerate_from 1 rule.right)) 0)
  all_left rule is =
      chains_through g p i q rule is
      ∙ ap (λ (l : List Goal). flat_map (chained p i q) l) (sym (places_left_none g q (enumerate_from 1 rule.right)))

  -- the first one
  pub first_left : (old new : List Goal) (j r : ℕ) → old ≡ Context q j r ∷ new → flat_map (chained p i q) old ≡ chain_of p i q j r ∷ flat_map (chained p i q) new
  first_left old new j r e =
      ap (λ (l : List Goal). flat_map (chained p i q) l) e
      ∙ ap (λ (l : List Chain). l ++ flat_map (chained p i q) new) (chained_one g p i q j r)

-- where nothing is open, nothing is left
pub ended : (g : PlainGrammar) (opened : Option Open) (contexts : List Goal) → IsKept g opened contexts → ((o : Open) → opened ≡ Some o → ⊥) → chains_left g opened contexts ≡ []
ended g None contexts kept nothing = ap (λ (l : List Goal). flat_map (chains_from g) l) kept
ended g (Some o) contexts kept nothing = absurd (nothing o refl)
