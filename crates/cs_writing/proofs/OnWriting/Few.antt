-- A grammar has fewer goals than a u64 counts.
use Rattle.std.proofs.Common.{◌≡◌, ℕ, ◌+◌, ◌*◌, ◌≤◌, Bool, true, false, List, [], ◌∷◌, ◌++◌, length, length-append, refl, arith}
use Rattle.std.specs.Prelude.{All, ◌==◌, if◌then◌else◌}
use Rattle.std.specs.List.{flat_map, filter, enumerate_from}
use Rattle.std.proofs.lemmas.List.{length-map}
use Rattle.std.proofs.lemmas.List.FromFn.{length-enumerate_from, length-map-range_with_len}
use Rattle.std.proofs.lemmas.List.Sums.{length-filter, count_by-le-length}
use Rattle.std.proofs.lemmas.List.Elements.{All-head, All-tail}
use Rattle.cs_grammar.specs.Grammar.{IsGrammar, IsRuleOf, PlainGrammar, Production}
use Rattle.cs_grammar.specs.declared.symbol.Symbol.{Symbol}
use Rattle.cs_grammar.specs.declared.symbol.Symbol.TheVariants.{Token, Nonterminal}
use Rattle.cs_grammar.specs.declared.symbol.Mark.{Mark}
use Rattle.cs_grammar.specs.declared.symbol.Mark.TheVariants as marks
use Rattle.cs_choices.specs.declared.criteria.Criteria.{Criteria}
use Rattle.cs_goals.specs.declared.goal.Goal.TheVariants.{Rule, Context, Pair}
use Rattle.cs_goals.specs.Goals.{context_goals, goals, goals_after, goals_at, goals_in, left_marks, numbered_rules, pair_goals, right_marks, rule_goals, rules_of, token_marks}

-- pieces of at most 8,192 members each
short_8192 : {A B : Type 0} (f : A → List B) → ((x : A) → length (f x) ≤ 8192) → (xs : List A) → length (flat_map f xs) ≤ 8192 * length xs
short_8192 f each [] = omega arith
short_8192 f each (x ∷ xs) = omega (arith, length-append (f x) (flat_map f xs), each x, short_8192 f each xs)

-- and of at most 513
pub short_513 : {A B : Type 0} (f : A → List B) → ((x : A) → length (f x) ≤ 513) → (xs : List A) → length (flat_map f xs) ≤ 513 * length xs
short_513 f each [] = omega arith
short_513 f each (x ∷ xs) = omega (arith, length-append (f x) (flat_map f xs), each x, short_513 f each xs)

pub few_chosen : {A : Type 0} (b : Bool) (xs : List A) → length (if b then xs else []) ≤ length xs
few_chosen true xs = omega arith
few_chosen false xs = omega arith

module _ (g : PlainGrammar) (is : IsGrammar g) where
  few_at : (p : ℕ) (e : ℕ × Symbol) → length (goals_at g p e) ≤ 8192
  few_at p (i, Token t) = omega arith
  few_at p (i, Nonterminal n) =
      let chosen = filter (λ (r : ℕ × Production). r.1.left == n) (numbered_rules g) in
      omega (
        arith,
        is.few,
        length-map (rules_of (numbered_rules g) n) (Context p i),
        length-map chosen (λ (r : ℕ × Production). r.0),
        length-filter (λ (r : ℕ × Production). r.1.left == n) (numbered_rules g),
        count_by-le-length (λ (r : ℕ × Production). r.1.left == n) (numbered_rules g),
        length-enumerate_from 1 g.rules,
      )

  few_in : (p : ℕ) (rule : Production) → length rule.right ≤ 128 → length (goals_in g (p, rule)) ≤ 1048576
  few_in p rule short =
      omega (arith, short, short_8192 (goals_at g p) (few_at p) (enumerate_from 1 rule.right), length-enumerate_from 1 rule.right)

  few_of_rules : (n : ℕ) (rules : List Production) → All (IsRuleOf g.tokens g.nonterminals) rules → length (flat_map (goals_in g) (enumerate_from n rules)) ≤ 1048576 * length rules
  few_of_rules n [] each = omega arith
  few_of_rules n (rule ∷ rules) each =
      let first = All-head (IsRuleOf g.tokens g.nonterminals) rule rules each in
      let others = few_of_rules (n + 1) rules (All-tail (IsRuleOf g.tokens g.nonterminals) rule rules each) in
      omega (arith, few_in n rule first.short, others, length-append (goals_in g (n, rule)) (flat_map (goals_in g) (enumerate_from (n + 1) rules)))

  few_after : (a : Mark) → length (goals_after g.tokens a) ≤ 513
  few_after a =
      omega (
        arith,
        is.tokens,
        length-map (right_marks g.tokens) (Pair a),
        length-append (token_marks g.tokens) (marks.End ∷ []),
        length-map-range_with_len marks.Token 1 g.tokens,
      )

  few_pairs : length (pair_goals g) ≤ 263169
  few_pairs =
      omega (arith, is.tokens, short_513 (goals_after g.tokens) few_after (left_marks g.tokens), length-map-range_with_len marks.Token 1 g.tokens)

  pub few_goals : (c : Criteria) → length (goals g c) ≤ 10000000000
  few_goals c =
      let rules = if c.rule then rule_goals g else [] in
      let contexts = if c.cdrc then context_goals g else [] in
      let pairs = if c.pair then pair_goals g else [] in
      let whole : length (goals g c) ≡ length ((rules ++ contexts) ++ pairs) = refl in
      omega (
        arith,
        whole,
        is.few,
        few_chosen c.rule (rule_goals g),
        few_chosen c.cdrc (context_goals g),
        few_chosen c.pair (pair_goals g),
        length-map-range_with_len Rule 1 (length g.rules),
        few_of_rules 1 g.rules is.rules,
        few_pairs,
        length-append (rules ++ contexts) pairs,
        length-append rules contexts,
      )
