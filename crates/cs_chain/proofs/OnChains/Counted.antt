-- How long the list of chains is.
use Rattle.std.proofs.Common.{◌≡◌, ℕ, suc, ◌+◌, ◌-◌, Bool, true, false, cond, eqb, List, [], ◌∷◌, ◌++◌, Some, map, length, refl, sym, ap, ◌∙◌, arith, zero-add, length-append}
use Rattle.std.specs.Prelude.{slice_get}
use Rattle.std.specs.List.{flat_map, enumerate_from, filter, sum_by}
use Rattle.std.proofs.lemmas.List.Concat.{flat_map-append}
use Rattle.std.proofs.lemmas.List.Sums.{sum_by-cons}
use Rattle.std.proofs.lemmas.List.{length-map}
use Rattle.cs_grammar.specs.declared.symbol.Symbol.{Symbol}
use Rattle.cs_grammar.specs.declared.symbol.Symbol.TheVariants.{Token, Nonterminal}
use Rattle.cs_grammar.specs.Grammar.{Production, PlainGrammar, IsRule}
use Rattle.cs_goals.specs.declared.goal.Goal.{Goal}
use Rattle.cs_goals.specs.declared.goal.Goal.TheVariants.{Context}
use Rattle.cs_goals.specs.Goals.{numbered_rules, rules_of, goals_at, goals_in}
use Rattle.cs_chain.specs.declared.chains.chain.Chain.{Chain}
use Rattle.cs_chain.specs.Chains.Chains.{chained, chains_from, chains}
use Rattle.cs_chain.specs.Chains.Counts.{of_symbol, weight, of_rule, of_left, rules_with, links_of, links_with, chains_with}
use Rattle.cs_chain.proofs.OnChains.Under.{chained_one, chains_through}

-- the rules of a left side, each with its number
added : (ℕ → ℕ) → List ℕ → ℕ
added f [] = 0
added f (n ∷ ns) = f n + added f ns

added-cond : (f : ℕ → ℕ) (p : Production) (rules : List (ℕ × Production)) (b : Bool) (a : ℕ) → added f (map (λ (r : ℕ × Production). r.0) (cond b ((a, p) ∷ rules) rules)) ≡ cond b (f a) 0 + added f (map (λ (r : ℕ × Production). r.0) rules)
unfolding added
added-cond f p rules true a = refl
added-cond f p rules false a = sym (omega arith)

added-rules : (f : ℕ → ℕ) (h : Production → ℕ) (n : ℕ) (rules : List Production) (a : ℕ) → ((k : ℕ) (p : Production) → slice_get rules k ≡ Some p → f (a + k) ≡ h p) → added f (rules_of (enumerate_from a rules) n) ≡ of_left h rules n
unfolding added
added-rules f h n [] a same = refl
added-rules f h n (p ∷ rules) a same =
    let here : f a ≡ h p = ap f (sym (first a)) ∙ same 0 p refl in
    added-cond f p (filter (λ (r : ℕ × Production). eqb r.1.left n) (enumerate_from (a + 1) rules)) (eqb p.left n) a
    ∙ ap (λ k. cond (eqb p.left n) k 0 + added f (rules_of (enumerate_from (a + 1) rules) n)) here
    ∙ ap (λ k. of_rule h n p + k) (added-rules f h n rules (a + 1) (λ k r at. ap f (later a k) ∙ same (suc k) r at))
    ∙ sym (sum_by-cons (of_rule h n) p rules)
  where
    first : (a : ℕ) → a + 0 ≡ a
    first a = omega arith

    later : (a k : ℕ) → a + 1 + k ≡ a + suc k
    later a k = omega arith

added-ones : (ns : List ℕ) → added (λ n. 1) ns ≡ length ns
unfolding added
added-ones [] = refl
added-ones (n ∷ ns) = ap (λ k. 1 + k) (added-ones ns) ∙ one_more (length ns)
  where
    one_more : (k : ℕ) → 1 + k ≡ suc k
    one_more k = omega arith

module _ (g : PlainGrammar) where
  count_rules : (n : ℕ) → length (rules_of (numbered_rules g) n) ≡ rules_with g n
  count_rules n = sym (added-ones (rules_of (numbered_rules g) n)) ∙ added-rules (λ n. 1) (λ (p : Production). 1) n g.rules 1 (λ k p at. refl)

  -- the context goals of a rule
  count_places : (q : ℕ) (xs : List Symbol) (a : ℕ) → length (flat_map (goals_at g q) (enumerate_from a xs)) ≡ weight (rules_with g) xs
  count_places q [] a = refl
  count_places q (Token t ∷ xs) a = count_places q xs (a + 1) ∙ sym (zero-add (weight (rules_with g) xs)) ∙ sym (sum_by-cons (of_symbol (rules_with g)) (Token t) xs)
  count_places q (Nonterminal n ∷ xs) a =
      length-append (map (Context q a) (rules_of (numbered_rules g) n)) (flat_map (goals_at g q) (enumerate_from (a + 1) xs))
      ∙ ap (λ k. k + length (flat_map (goals_at g q) (enumerate_from (a + 1) xs))) (length-map (rules_of (numbered_rules g) n) (Context q a) ∙ count_rules n)
      ∙ ap (λ k. rules_with g n + k) (count_places q xs (a + 1))
      ∙ sym (sum_by-cons (of_symbol (rules_with g)) (Nonterminal n) xs)

  -- each of the middle rule makes a chain
  module _ (p i q : ℕ) where
    chained_rules : (j : ℕ) (ns : List ℕ) (rest : List Goal) → length (flat_map (chained p i q) rest) ≡ length rest → length (flat_map (chained p i q) (map (Context q j) ns ++ rest)) ≡ length (map (Context q j) ns ++ rest)
    chained_rules j [] rest h = h
    chained_rules j (n ∷ ns) rest h =
        ap (λ (l : List Chain). length (l ++ flat_map (chained p i q) (map (Context q j) ns ++ rest))) (chained_one g p i q j n)
        ∙ ap suc (chained_rules j ns rest h)

    chained_places : (places : List (ℕ × Symbol)) → length (flat_map (chained p i q) (flat_map (goals_at g q) places)) ≡ length (flat_map (goals_at g q) places)
    chained_places [] = refl
    chained_places ((j, Token t) ∷ places) = chained_places places
    chained_places ((j, Nonterminal n) ∷ places) = chained_rules j (rules_of (numbered_rules g) n) (flat_map (goals_at g q) places) (chained_places places)

    count_from : (rule : Production) → IsRule g q rule → length (chains_from g (Context p i q)) ≡ weight (rules_with g) rule.right
    count_from rule is =
        ap (λ (l : List Chain). length l) (chains_through g p i q rule is)
        ∙ chained_places (enumerate_from 1 rule.right)
        ∙ count_places q rule.right 1

  -- the chains that begin at a place, with any of its rules
  count_inner : (p i : ℕ) (ns : List ℕ) → length (flat_map (chains_from g) (map (Context p i) ns)) ≡ added (λ q. length (chains_from g (Context p i q))) ns
  unfolding added
  count_inner p i [] = refl
  count_inner p i (n ∷ ns) =
      length-append (chains_from g (Context p i n)) (flat_map (chains_from g) (map (Context p i) ns))
      ∙ ap (λ k. length (chains_from g (Context p i n)) + k) (count_inner p i ns)

  count_at : (p i n : ℕ) → length (flat_map (chains_from g) (map (Context p i) (rules_of (numbered_rules g) n))) ≡ links_with g n
  count_at p i n =
      count_inner p i (rules_of (numbered_rules g) n)
      ∙ added-rules (λ q. length (chains_from g (Context p i q))) (links_of g) n g.rules 1
      (λ k r at. count_from p i (1 + k) r (record { above_zero = omega arith; at = ap (λ m. slice_get g.rules m) (before k) ∙ at }))
    where
      before : (k : ℕ) → 1 + k - 1 ≡ k
      before k = omega arith

  count_outer : (p : ℕ) (xs : List Symbol) (a : ℕ) → length (flat_map (chains_from g) (flat_map (goals_at g p) (enumerate_from a xs))) ≡ weight (links_with g) xs
  count_outer p [] a = refl
  count_outer p (Token t ∷ xs) a = count_outer p xs (a + 1) ∙ sym (zero-add (weight (links_with g) xs)) ∙ sym (sum_by-cons (of_symbol (links_with g)) (Token t) xs)
  count_outer p (Nonterminal n ∷ xs) a =
      let here = map (Context p a) (rules_of (numbered_rules g) n) in
      let behind = flat_map (goals_at g p) (enumerate_from (a + 1) xs) in
      ap (λ (l : List Chain). length l) (flat_map-append (chains_from g) here behind)
      ∙ length-append (flat_map (chains_from g) here) (flat_map (chains_from g) behind)
      ∙ ap (λ k. k + length (flat_map (chains_from g) behind)) (count_at p a n)
      ∙ ap (λ k. links_with g n + k) (count_outer p xs (a + 1))
      ∙ sym (sum_by-cons (of_symbol (links_with g)) (Nonterminal n) xs)

  -- and with any rule
  count_all : (rules : List Production) (a : ℕ) → length (flat_map (chains_from g) (flat_map (goals_in g) (enumerate_from a rules))) ≡ sum_by (chains_with g) rules
  count_all [] a = refl
  count_all (p ∷ rules) a =
      let behind = flat_map (goals_in g) (enumerate_from (a + 1) rules) in
      ap (λ (l : List Chain). length l) (flat_map-append (chains_from g) (goals_in g (a, p)) behind)
      ∙ length-append (flat_map (chains_from g) (goals_in g (a, p))) (flat_map (chains_from g) behind)
      ∙ ap (λ k. k + length (flat_map (chains_from g) behind)) (count_outer a p.right 1)
      ∙ ap (λ k. chains_with g p + k) (count_all rules (a + 1))
      ∙ sym (sum_by-cons (chains_with g) p rules)

  pub count_chains : length (chains g) ≡ sum_by (chains_with g) g.rules
  count_chains = count_all g.rules 1
