-- Each chain stands in the list of chains once, and the chains in it are the grammar's.
use Rattle.std.proofs.Common.{◌≡◌, ◌≢◌, ℕ, suc, true, false, eqb, List, [], ◌∷◌, map, refl, sym, ap, ◌∙◌, subst, ⊎_elim, inl, ◌↔◌, arith, append-nil}
use Rattle.std.specs.List.{AllPairs, Contains}
use Rattle.std.proofs.lemmas.Bool.Decides.{nat_tests}
use Rattle.cs_grammar.specs.Grammar.{PlainGrammar}
use Rattle.cs_goals.specs.declared.goal.Goal.{Goal}
use Rattle.cs_goals.specs.declared.goal.Goal.TheVariants.{Rule, Context, Pair}
use Rattle.cs_goals.specs.Goal.{IsOccurrence, IsGoal}
use Rattle.cs_goals.specs.Goals.{context_goals, goals}
use Rattle.cs_goals.proofs.Members.{Among, Apart, Contains-from_Among, Among-from_Contains, AllPairs-from_Apart, Among-cond, Apart-cond, Apart-map, Among-flat_map, Among-joined, Apart-flat_map}
use Rattle.cs_goals.proofs.Once.{once, all}
use Rattle.cs_chain.specs.declared.chains.chain.Chain.{Chain}
use Rattle.cs_chain.specs.Chains.Chain.{IsChain}
use Rattle.cs_chain.specs.Chains.Chains.{chain_of, chained, chains_from, chains}
use Rattle.cs_chain.proofs.OnChains.Under.{chained_one}

-- a list in which no element comes twice
module _ {A : Type 0} where
  pub Apart-from_AllPairs : (xs : List A) → AllPairs (λ a b. a ≢ b) xs → Apart xs
  Apart-from_AllPairs [] h = tt
  Apart-from_AllPairs (x ∷ xs) h = (
    λ again.
        let c = Contains-from_Among x xs again in
        let within = c.1 in
        h 0 (suc c.0) x (omega arith) (omega arith) (sym c.2),
    Apart-from_AllPairs xs (λ i j d below within. h (suc i) (suc j) d (omega arith) (omega arith)),
  )

module _ (g : PlainGrammar) where
  pub all_contexts : goals g (record { rule = false; cdrc = true; pair = false }) ≡ context_goals g
  all_contexts = append-nil (context_goals g)

  in_contexts : (goal : Goal) → Among goal (context_goals g) → IsGoal g goal
  in_contexts goal h =
      let there = Contains-from_Among goal (context_goals g) h in
      ((all g (record { rule = false; cdrc = true; pair = false }) goal).0 (subst (λ (l : List Goal). Contains l goal) (sym all_contexts) there)).1

  contexts_in : (p i q : ℕ) → IsOccurrence g p i q → Among (Context p i q) (context_goals g)
  contexts_in p i q is =
      let there = (all g (record { rule = false; cdrc = true; pair = false }) (Context p i q)).1 (refl, is) in
      Among-from_Contains (Context p i q) (context_goals g) (subst (λ (l : List Goal). Contains l (Context p i q)) all_contexts there)

  Apart-contexts : Apart (context_goals g)
  Apart-contexts =
      Apart-from_AllPairs (context_goals g)
      (subst (λ (l : List Goal). AllPairs (λ a b. a ≢ b) l) all_contexts (once g (record { rule = false; cdrc = true; pair = false })))

  Apart-keys : Apart (map (λ (goal : Goal). goal) (context_goals g))
  Apart-keys = Apart-map (λ (goal : Goal). goal) (λ x y e. e) (context_goals g) Apart-contexts

  -- the chains that begin with a context goal, by the goals under it
  in_chained : (p i q : ℕ) (goal : Goal) (c : Chain) → Among c (chained p i q goal) → (j : ℕ) × (r : ℕ) × (goal ≡ Context q j r) × (c ≡ chain_of p i q j r)
  in_chained p i q (Rule r) c h = absurd h
  in_chained p i q (Pair a b) c h = absurd h
  in_chained p i q (Context m j r) c h =
      let chosen = Among-cond c (eqb m q) (chain_of p i q j r ∷ []) h in
      let passes = chosen.0 in
      let same : m ≡ q = grind (arith, nat_tests) in
      (j, r, ap (λ n. Context n j r) same, ⊎_elim (λ here. here) (λ none. absurd none) chosen.1)

  Apart-chained : (p i q : ℕ) (goal : Goal) → Apart (chained p i q goal)
  Apart-chained p i q (Rule r) = tt
  Apart-chained p i q (Pair a b) = tt
  Apart-chained p i q (Context m j r) = Apart-cond (eqb m q) (chain_of p i q j r ∷ []) (λ none. none, tt)

  inner_goal : Chain → Goal
  inner_goal c = Context c.middle c.spot c.inner

  outer_goal : Chain → Goal
  outer_goal c = Context c.outer c.place c.middle

  shows_inner : (p i q : ℕ) (goal : Goal) (c : Chain) → Among c (chained p i q goal) → inner_goal c ≡ goal
  unfolding inner_goal
  shows_inner p i q goal c h = let is = in_chained p i q goal c h in ap inner_goal is.3 ∙ sym is.2

  in_from : (goal : Goal) (c : Chain) → Among c (chains_from g goal) → (p : ℕ) × (i : ℕ) × (q : ℕ) × (j : ℕ) × (r : ℕ) × (goal ≡ Context p i q) × (c ≡ chain_of p i q j r) × IsOccurrence g q j r
  in_from (Rule r) c h = absurd h
  in_from (Pair a b) c h = absurd h
  in_from (Context p i q) c h =
      let under = Among-flat_map (chained p i q) c (context_goals g) h in
      let is = in_chained p i q under.0 c under.2 in
      let goal = subst (IsGoal g) is.2 (in_contexts under.0 under.1) in
      (p, i, q, is.0, is.1, refl, is.3, goal)

  shows_outer : (goal : Goal) (c : Chain) → Among c (chains_from g goal) → outer_goal c ≡ goal
  unfolding outer_goal
  shows_outer goal c h = let is = in_from goal c h in ap outer_goal is.6 ∙ sym is.5

  Apart-from : (goal : Goal) → Apart (chains_from g goal)
  Apart-from (Rule r) = tt
  Apart-from (Pair a b) = tt
  Apart-from (Context p i q) =
      Apart-flat_map (chained p i q) (λ (goal : Goal). goal) inner_goal (Apart-chained p i q) (shows_inner p i q) (context_goals g) Apart-keys

  pub chains_once : AllPairs (λ a b. a ≢ b) (chains g)
  chains_once =
      AllPairs-from_Apart (chains g) (Apart-flat_map (chains_from g) (λ (goal : Goal). goal) outer_goal Apart-from shows_outer (context_goals g) Apart-keys)

  is_chain : (c : Chain) → Among c (chains g) → IsChain g c
  is_chain c h =
      let begun = Among-flat_map (chains_from g) c (context_goals g) h in
      let is = in_from begun.0 c begun.2 in
      let goal = subst (IsGoal g) is.5 (in_contexts begun.0 begun.1) in
      subst (IsChain g) (sym is.6) (goal, is.7)

  is_among : (c : Chain) → IsChain g c → Among c (chains g)
  is_among c is =
      Among-joined (chains_from g) c (Context c.outer c.place c.middle) (context_goals g) (contexts_in c.outer c.place c.middle is.0)
      (Among-joined (chained c.outer c.place c.middle) c (Context c.middle c.spot c.inner) (context_goals g) (contexts_in c.middle c.spot c.inner is.1)
      (subst (Among c) (sym (chained_one g c.outer c.place c.middle c.spot c.inner)) (inl refl)))

  pub chains_exact : (c : Chain) → Contains (chains g) c ↔ IsChain g c
  chains_exact c = (λ there. is_chain c (Among-from_Contains c (chains g) there), λ is. Contains-from_Among c (chains g) (is_among c is))
