-- The context goals under a context goal are those of its inner rule.
use Rattle.std.proofs.Common.{◌≡◌, ◌≢◌, ℕ, zero, suc, ◌+◌, ◌-◌, ◌<◌, List, [], ◌∷◌, ◌++◌, Some, map, eqb, true, false, refl, ap, ◌∙◌, arith}
use Rattle.std.specs.Prelude.{slice_get}
use Rattle.std.specs.List.{flat_map, enumerate_from}
use Rattle.std.proofs.lemmas.List.Concat.{flat_map-append}
use Rattle.std.proofs.lemmas.Bool.Decides.{nat_tests}
use Rattle.cs_grammar.specs.declared.symbol.Symbol.{Symbol}
use Rattle.cs_grammar.specs.declared.symbol.Symbol.TheVariants.{Token, Nonterminal}
use Rattle.cs_grammar.specs.Grammar.{Production, PlainGrammar, IsRule, HasNoRule}
use Rattle.cs_goals.specs.declared.goal.Goal.TheVariants.{Context}
use Rattle.cs_goals.specs.Goals.{numbered_rules, rules_of, goals_at, goals_in}
use Rattle.cs_chain.specs.declared.chains.chain.Chain.{Chain}
use Rattle.cs_chain.specs.Chains.Chains.{chain_of, chained, chains_from}

same_number : (q : ℕ) → eqb q q ≡ true
same_number q = grind (arith, nat_tests)

other_number : (m q : ℕ) → m ≢ q → eqb m q ≡ false
other_number m q other = grind (arith, nat_tests)

module _ (g : PlainGrammar) (p i q : ℕ) where
  -- a context goal of the middle rule is under it
  pub chained_one : (j r : ℕ) → chained p i q (Context q j r) ≡ chain_of p i q j r ∷ []
  chained_one j r = let test : eqb q q ≡ true = same_number q in rw test refl

  -- and one of another rule isn't
  chained_other : (m j r : ℕ) → m ≢ q → chained p i q (Context m j r) ≡ []
  chained_other m j r other = let test : eqb m q ≡ false = other_number m q other in rw test refl

  other_rules : (m j : ℕ) (ns : List ℕ) → m ≢ q → flat_map (chained p i q) (map (Context m j) ns) ≡ []
  other_rules m j [] other = refl
  other_rules m j (n ∷ ns) other =
      ap (λ (l : List Chain). l ++ flat_map (chained p i q) (map (Context m j) ns)) (chained_other m j n other) ∙ other_rules m j ns other

  other_places : (m : ℕ) (places : List (ℕ × Symbol)) → m ≢ q → flat_map (chained p i q) (flat_map (goals_at g m) places) ≡ []
  other_places m [] other = refl
  other_places m ((j, Token t) ∷ places) other = other_places m places other
  other_places m ((j, Nonterminal n) ∷ places) other =
      flat_map-append (chained p i q) (goals_at g m (j, Nonterminal n)) (flat_map (goals_at g m) places)
      ∙ ap (λ (l : List Chain). l ++ flat_map (chained p i q) (flat_map (goals_at g m) places)) (other_rules m j (rules_of (numbered_rules g) n) other)
      ∙ other_places m places other

  other_rule : (m : ℕ) (rule : Production) → m ≢ q → flat_map (chained p i q) (goals_in g (m, rule)) ≡ []
  other_rule m rule other = other_places m (enumerate_from 1 rule.right) other

  -- the rules one after another
  cut : (a : ℕ) (rule : Production) (rules : List Production) → flat_map (chained p i q) (flat_map (goals_in g) (enumerate_from a (rule ∷ rules))) ≡ flat_map (chained p i q) (goals_in g (a, rule)) ++ flat_map (chained p i q) (flat_map (goals_in g) (enumerate_from (a + 1) rules))
  cut a rule rules = flat_map-append (chained p i q) (goals_in g (a, rule)) (flat_map (goals_in g) (enumerate_from (a + 1) rules))

  skip : (a : ℕ) (rule : Production) (rules : List Production) → a ≢ q → flat_map (chained p i q) (flat_map (goals_in g) (enumerate_from a (rule ∷ rules))) ≡ flat_map (chained p i q) (flat_map (goals_in g) (enumerate_from (a + 1) rules))
  skip a rule rules other =
      cut a rule rules
      ∙ ap (λ (l : List Chain). l ++ flat_map (chained p i q) (flat_map (goals_in g) (enumerate_from (a + 1) rules))) (other_rule a rule other)

  -- behind the middle rule's number there are none
  past : (rules : List Production) (a : ℕ) → q < a → flat_map (chained p i q) (flat_map (goals_in g) (enumerate_from a rules)) ≡ []
  past [] a h = refl
  past (rule ∷ rules) a h = skip a rule rules (omega arith) ∙ past rules (a + 1) (omega arith)

  from : (rules : List Production) (rule : Production) (a k : ℕ) → a + k ≡ q → slice_get rules k ≡ Some rule → flat_map (chained p i q) (flat_map (goals_in g) (enumerate_from a rules)) ≡ flat_map (chained p i q) (goals_in g (q, rule))
  from [] rule a k e at = absurd cc
  from (first ∷ rules) rule a zero e at =
      let same : first ≡ rule = cc in
      let number : a ≡ q = omega arith in
      cut a first rules
      ∙ ap (λ (l : List Chain). flat_map (chained p i q) (goals_in g (a, first)) ++ l) (past rules (a + 1) (omega arith))
      ∙ nothing_behind (flat_map (chained p i q) (goals_in g (a, first)))
      ∙ ap (λ n. flat_map (chained p i q) (goals_in g (n, first))) number
      ∙ ap (λ (r : Production). flat_map (chained p i q) (goals_in g (q, r))) same
    where
      nothing_behind : (l : List Chain) → l ++ [] ≡ l
      nothing_behind [] = refl
      nothing_behind (x ∷ l) = ap (λ (s : List Chain). x ∷ s) (nothing_behind l)
  from (first ∷ rules) rule a (suc k) e at = skip a first rules (omega arith) ∙ from rules rule (a + 1) k (omega arith) at

  none_from : (rules : List Production) (a k : ℕ) → a + k ≡ q → ((r : Production) → slice_get rules k ≡ Some r → ⊥) → flat_map (chained p i q) (flat_map (goals_in g) (enumerate_from a rules)) ≡ []
  none_from [] a k e never = refl
  none_from (first ∷ rules) a zero e never = absurd (never first refl)
  none_from (first ∷ rules) a (suc k) e never = skip a first rules (omega arith) ∙ none_from rules (a + 1) k (omega arith) never

-- the chains that begin with a context goal go on with those of its inner rule
pub chains_through : (g : PlainGrammar) (p i q : ℕ) (rule : Production) → IsRule g q rule → chains_from g (Context p i q) ≡ flat_map (chained p i q) (goals_in g (q, rule))
chains_through g p i q rule is =
    let above = is.above_zero in
    from g p i q g.rules rule 1 (q - 1) (omega arith) is.at

pub no_chains_through : (g : PlainGrammar) (p i q : ℕ) → HasNoRule g q → chains_from g (Context p i q) ≡ []
no_chains_through g p i zero never = past g p i zero g.rules 1 (omega arith)
no_chains_through g p i (suc k) never = none_from g p i (suc k) g.rules 1 k (omega arith) (λ r at. never r (record { above_zero = omega arith; at = ap (λ n. slice_get g.rules n) (before k) ∙ at }))
  where
    before : (k : ℕ) → suc k - 1 ≡ k
    before k = omega arith
