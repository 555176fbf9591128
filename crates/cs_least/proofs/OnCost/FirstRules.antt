-- The lowest rules of least cost.
use Rattle.std.proofs.Common.{◌≡◌, ℕ, ◌+◌, ◌-◌, ◌<◌, ◌≤◌, ◌≢◌, ◌⊎◌, List, Option, Some, None, length, get_or, replicate, refl, sym, ap, ◌∙◌, subst, ⊎_elim, inl, inr, arith, below_more}
use Rattle.std.specs.Prelude.{slice_get}
use Rattle.std.proofs.Math.ListN.{set}
use Rattle.std.proofs.lemmas.Bool.{cases_eq, cases_lt}
use Rattle.std.proofs.lemmas.List.{length-set, get_or-set_same, get_or-set_other, length-replicate, get_or-replicate}
use Rattle.std.proofs.lemmas.Option.{slice_get_within, slice_get-get_or, slice_get_read}
use Rattle.cs_grammar.specs.declared.symbol.Symbol.{Symbol}
use Rattle.cs_grammar.specs.declared.symbol.Symbol.TheVariants.{Token, Nonterminal}
use Rattle.cs_grammar.specs.Grammar.{Production, PlainGrammar, IsNumberOf}
use Rattle.cs_grammar.specs.Weights.{Measure}
use Rattle.cs_grammar.specs.Tree.{Tree, Leaf, Node, IsTree, AreTrees, size, sizes}
use Rattle.cs_least.specs.declared.cost.cost.Cost.{Cost}
use Rattle.cs_least.specs.declared.cost.cost.Cost.TheVariants.{Least}
use Rattle.cs_least.specs.Cost.Least.{IsCost}
use Rattle.cs_least.specs.Cost.Rank.{capped, rank, cost_of, sum_from, entry}
use Rattle.cs_least.specs.Cost.Trees.{cost_in, node_cost, IsTreeOf, IsCostTable, IsFirstRule, AreFirstRules}
use Rattle.cs_least.proofs.OnCost.Ranks.{rank-cost_of, IsCapped-sum_from, IsCost-from, cost_low, cost_reached}
use Rattle.cs_least.proofs.OnCost.TreeCosts.{IsReached, IsReached-holds, forested, forest_at_most}
use Rattle.cs_least.proofs.OnCost.Rules.{rule_at, well_formed_at}

-- no tree of a symbol is smaller than the table of a grammar says
pub symbol_low : (w : Measure) (g : PlainGrammar) (table : List Cost) → IsCostTable w g table → (x : Symbol) (t : Tree) → IsTree g x t → rank w.limit (cost_in w table x) ≤ capped w.limit (size w t)
symbol_low w g table exact (Token s) (Leaf t) h =
    let same : s ≡ t = cc in omega (arith, rank-cost_of w.limit (size w (Leaf s)), ap (λ u. size w (Leaf u)) same)
symbol_low w g table exact (Token s) (Node r f) h = let e = h.2 in absurd cc
symbol_low w g table exact (Nonterminal n) t h = cost_low w.limit (IsTreeOf g n) (size w) (entry table n) (exact.exact n) t h

-- and some tree of it is as small as the table says
pub symbols_reached : (w : Measure) (g : PlainGrammar) (table : List Cost) → IsCostTable w g table → IsReached w g (cost_in w table)
symbols_reached w g table exact =
    IsReached-holds w g table (record {
      each = exact.each;
      reached = λ n h. cost_reached w.limit (IsTreeOf g n) (size w) (entry table n) (exact.exact n) h;
    })

-- so it says what the least tree of each symbol costs
pub symbol_cost : (w : Measure) (g : PlainGrammar) (table : List Cost) → IsCostTable w g table → (x : Symbol) → IsCost w.limit (IsTree g x) (size w) (cost_in w table x)
symbol_cost w g table exact x =
    let is_reached = symbols_reached w g table exact in
    IsCost-from w.limit (IsTree g x) (size w) (cost_in w table x) (is_reached.each x) (is_reached.reached x) (symbol_low w g table exact x)

-- and of symbols together
pub symbols_cost : (w : Measure) (g : PlainGrammar) (table : List Cost) → IsCostTable w g table → (xs : List Symbol) → IsCost w.limit (AreTrees g xs) (sizes w) (sum_from w.limit (cost_in w table) (Least 0) xs)
symbols_cost w g table exact xs =
    let told = cost_in w table in
    let is_reached = symbols_reached w g table exact in
    IsCost-from w.limit (AreTrees g xs) (sizes w) (sum_from w.limit told (Least 0) xs) (IsCapped-sum_from w.limit told is_reached.each xs (Least 0) (omega arith))
    (λ h. let f = forested w g told is_reached xs (Least 0) (omega arith) h in (f.trees, f.are, omega (arith, f.cost)))
    (λ f h. omega (arith, forest_at_most w g told (symbol_low w g table exact) f xs (Least 0) 0 (omega arith) h))

-- no rule of the left side at an index below i costs what the table says
pub record NoneBefore (w : Measure) (g : PlainGrammar) (table : List Cost) (left i : ℕ) : Type 0 where
  pub dearer : (k : ℕ) → (o : Production) → k < i → slice_get g.rules k ≡ Some o → o.left ≡ left → rank w.limit (entry table left) < rank w.limit (node_cost w table o.right)

module _ (w : Measure) (g : PlainGrammar) (table : List Cost) (left i : ℕ) (q : Production) (at : slice_get g.rules i ≡ Some q) (so_far : NoneBefore w g table left i) where
  pub none_more : (q.left ≡ left → rank w.limit (entry table left) < rank w.limit (node_cost w table q.right)) → NoneBefore w g table left (i + 1)
  none_more here = record {
    dearer = λ k o within.
        below_more (λ n. (u : Production) → slice_get g.rules n ≡ Some u → u.left ≡ left → rank w.limit (entry table left) < rank w.limit (node_cost w table u.right)) i
        (λ n lt u. so_far.dearer n u lt)
        (λ u e. let same : q ≡ u = cc in subst (λ o. o.left ≡ left → rank w.limit (entry table left) < rank w.limit (node_cost w table o.right)) same here)
        k within o;
  }

  pub first_here : q.left ≡ left → rank w.limit (node_cost w table q.right) ≤ rank w.limit (entry table left) → IsFirstRule w g table left (i + 1)
  first_here is_left cheap = record {
    rule = q;
    number = rule_at g i q at;
    of_left = is_left;
    cost = cheap;
    earlier = λ s o lower rule e. so_far.dearer (s - 1) o (let above = rule.above_zero in omega arith) rule.at e;
  }

-- a nonterminal within the limit has a rule of its cost
module _ (w : Measure) (g : PlainGrammar) (table : List Cost) (exact : IsCostTable w g table) (left i : ℕ) (all : length g.rules ≤ i) (so_far : NoneBefore w g table left i) where
  no_tree : (t : Tree) → IsTree g (Nonterminal left) t → capped w.limit (size w t) ≤ rank w.limit (entry table left) → ⊥
  no_tree (Leaf s) h small = cc
  no_tree (Node r f) h small =
      let of_left : h.0.left ≡ left = (let e = h.2 in cc) in
      let within = slice_get_within g.rules (r - 1) h.0 h.1.at in
      let dear = so_far.dearer (r - 1) h.0 (omega (arith, within, all)) h.1.at of_left in
      let cheap = forest_at_most w g (cost_in w table) (symbol_low w g table exact) f h.0.right (cost_of w.limit 1) 1 (omega (arith, rank-cost_of w.limit 1)) h.3 in
      omega (arith, dear, cheap, small)

  pub some_rule : rank w.limit (entry table left) ≤ w.limit → ⊥
  some_rule small =
      let t = cost_reached w.limit (IsTreeOf g left) (size w) (entry table left) (exact.exact left) (omega (arith, small)) in
      no_tree t.0 t.1 t.2

-- the first rule of a nonterminal among those below index i, where there is one yet
abbrev pub IsFirstSoFar : Measure → PlainGrammar → List Cost → ℕ → ℕ → Option ℕ → Type 0
IsFirstSoFar w g table i n o = ((o ≡ None) × NoneBefore w g table n i) ⊎ ((r : ℕ) × (o ≡ Some r) × IsFirstRule w g table n r)

pub record FirstsSoFar (w : Measure) (g : PlainGrammar) (table : List Cost) (firsts : List (Option ℕ)) (i : ℕ) : Type 0 where
  pub many : length firsts ≡ g.nonterminals
  pub each : (n : ℕ) → IsNumberOf g.nonterminals n → IsFirstSoFar w g table i n (get_or firsts (n - 1) None)

-- before the first rule
pub firsts_start : (w : Measure) (g : PlainGrammar) (table : List Cost) → FirstsSoFar w g table (replicate g.nonterminals None) 0
firsts_start w g table = record {
  many = length-replicate g.nonterminals None;
  each = λ n number. inl (get_or-replicate g.nonterminals (n - 1) None None (omega (arith, number)), record { dearer = λ k o below at e. absurd (omega (arith, below)) });
}

module _ (w : Measure) (g : PlainGrammar) (table : List Cost) (firsts : List (Option ℕ)) (i : ℕ) (q : Production) (at : slice_get g.rules i ≡ Some q) (so_far : FirstsSoFar w g table firsts i) where
  -- what was known of a nonterminal stays, where this rule is none of its first
  kept : (n : ℕ) (o : Option ℕ) → (o ≡ None → q.left ≡ n → rank w.limit (entry table n) < rank w.limit (node_cost w table q.right)) → IsFirstSoFar w g table i n o → IsFirstSoFar w g table (i + 1) n o
  kept n o here known =
      ⊎_elim (λ none. inl (none.0, none_more w g table n i q at none.1 (here none.0))) (λ first. inr first) known

  -- the left side has its first rule, or this one costs more
  pub firsts_kept : (get_or firsts (q.left - 1) None ≡ None → rank w.limit (entry table q.left) < rank w.limit (node_cost w table q.right)) → FirstsSoFar w g table firsts (i + 1)
  firsts_kept here = record {
    many = so_far.many;
    each = λ n number.
        kept n (get_or firsts (n - 1) None)
        (λ zero left. subst (λ m. rank w.limit (entry table m) < rank w.limit (node_cost w table q.right)) left
        (here (ap (λ m. get_or firsts (m - 1) None) left ∙ zero)))
        (so_far.each n number);
  }

  -- this rule is the first of its left side
  pub firsts_more : IsNumberOf g.nonterminals q.left → get_or firsts (q.left - 1) None ≡ None → rank w.limit (node_cost w table q.right) ≤ rank w.limit (entry table q.left) → FirstsSoFar w g table (set firsts (q.left - 1) (Some (i + 1))) (i + 1)
  firsts_more number unset cheap = record {
    many = length-set firsts (q.left - 1) (Some (i + 1)) ∙ so_far.many;
    each = λ n is_number. ⊎_elim (λ same. here n same) (λ other. there n is_number other) (cases_eq n q.left);
  }
    where
      none : NoneBefore w g table q.left i
      none =
          ⊎_elim (λ known. known.1)
          (λ first. let e : None ≡ Some first.0 = sym unset ∙ first.1 in absurd cc)
          (so_far.each q.left number)

      here : (n : ℕ) → n ≡ q.left → IsFirstSoFar w g table (i + 1) n (get_or (set firsts (q.left - 1) (Some (i + 1))) (n - 1) None)
      here n same =
          let within : q.left - 1 < length firsts = omega (arith, number, so_far.many) in
          let first : IsFirstSoFar w g table (i + 1) q.left (Some (i + 1)) = inr (i + 1, refl, first_here w g table q.left i q at none refl cheap) in
          let read : Some (i + 1) ≡ get_or (set firsts (q.left - 1) (Some (i + 1))) (n - 1) None =
          sym (ap (λ m. get_or (set firsts (q.left - 1) (Some (i + 1))) (m - 1) None) same ∙ get_or-set_same firsts (q.left - 1) (Some (i + 1)) None within) in
          subst (λ m. IsFirstSoFar w g table (i + 1) m (get_or (set firsts (q.left - 1) (Some (i + 1))) (n - 1) None)) (sym same)
          (subst (IsFirstSoFar w g table (i + 1) q.left) read first)

      there : (n : ℕ) → IsNumberOf g.nonterminals n → (n ≡ q.left → ⊥) → IsFirstSoFar w g table (i + 1) n (get_or (set firsts (q.left - 1) (Some (i + 1))) (n - 1) None)
      there n is_number other =
          let apart : n - 1 ≢ q.left - 1 = λ e. other (omega (arith, e, number, is_number)) in
          subst (IsFirstSoFar w g table (i + 1) n) (sym (get_or-set_other firsts (q.left - 1) (n - 1) (Some (i + 1)) None apart))
          (kept n (get_or firsts (n - 1) None) (λ zero left. absurd (other (sym left))) (so_far.each n is_number))

-- behind the last rule
pub firsts_all : (w : Measure) (g : PlainGrammar) (table : List Cost) (firsts : List (Option ℕ)) (i : ℕ) → IsCostTable w g table → length g.rules ≤ i → FirstsSoFar w g table firsts i → AreFirstRules w g table firsts
firsts_all w g table firsts i exact all so_far = record {
  many = so_far.many;
  each = λ n number small.
      ⊎_elim (λ none. absurd (some_rule w g table exact n i all none.1 small))
      (λ first. (first.0, slice_get-get_or firsts (n - 1) None (omega (arith, number, so_far.many)) ∙ ap Some first.1, first.2)) (so_far.each n number);
}

-- what the loop over the rules has found out
module _ (w : Measure) (g : PlainGrammar) (table : List Cost) (firsts : List (Option ℕ)) (i : ℕ) (q : Production) (left : ℕ) (right : List Symbol) (exact : IsCostTable w g table) (at : slice_get g.rules i ≡ Some q) (is_left : left ≡ q.left) (is_right : right ≡ q.right) (so_far : FirstsSoFar w g table firsts i) where
  pub step_taken : get_or firsts (left - 1) None ≡ None → rank w.limit (node_cost w table right) ≤ rank w.limit (entry table left) → FirstsSoFar w g table (set firsts (left - 1) (Some (i + 1))) (i + 1)
  step_taken unset cheap =
      subst (λ n. FirstsSoFar w g table (set firsts (n - 1) (Some (i + 1))) (i + 1)) (sym is_left)
      (firsts_more w g table firsts i q at so_far (well_formed_at g i q exact.weighs.grammar at).left (ap (λ n. get_or firsts (n - 1) None) (sym is_left) ∙ unset)
      (omega (arith, cheap, ap (λ n. rank w.limit (entry table n)) is_left, ap (λ (l : List Symbol). rank w.limit (node_cost w table l)) is_right)))

  pub step_passed : ((get_or firsts (left - 1) None ≡ None) × (rank w.limit (node_cost w table right) ≤ rank w.limit (entry table left)) → ⊥) → FirstsSoFar w g table firsts (i + 1)
  step_passed not_first =
      firsts_kept w g table firsts i q at so_far (λ unset.
      ⊎_elim (λ dear. dear)
      (λ cheap. absurd (not_first (
        ap (λ n. get_or firsts (n - 1) None) is_left ∙ unset,
        omega (arith, cheap, ap (λ n. rank w.limit (entry table n)) is_left, ap (λ (l : List Symbol). rank w.limit (node_cost w table l)) is_right),
      )))
      (cases_lt (rank w.limit (entry table q.left)) (rank w.limit (node_cost w table q.right))))

-- what the list says of a nonterminal within the limit
pub first_is : (w : Measure) (g : PlainGrammar) (table : List Cost) (firsts : List (Option ℕ)) → AreFirstRules w g table firsts → (left : ℕ) → IsNumberOf g.nonterminals left → rank w.limit (entry table left) ≤ w.limit → (o : Option ℕ) → o ≡ get_or firsts (left - 1) o → (r : ℕ) × (o ≡ Some r) × IsFirstRule w g table left r
first_is w g table firsts are left number small o read =
    let first = are.each left number small in
    let there = slice_get_read firsts (length firsts) (left - 1) o refl (omega (arith, number, are.many)) read in
    (first.0, (let e = first.1 in cc), first.2)
