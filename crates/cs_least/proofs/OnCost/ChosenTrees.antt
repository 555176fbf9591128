-- A symbol with a tree has a chosen tree, and only one.
use Rattle.std.proofs.Common.{◌≡◌, ℕ, zero, suc, ◌+◌, ◌-◌, ◌<◌, ◌≤◌, ◌⊎◌, List, [], ◌∷◌, length, refl, sym, ap, subst, ⊎_elim, inl, inr, arith}
use Rattle.std.proofs.lemmas.Bool.{cases_eq, cases_lt}
use Rattle.std.proofs.lemmas.Option.{slice_get_within}
use Rattle.cs_grammar.specs.declared.symbol.Symbol.{Symbol}
use Rattle.cs_grammar.specs.declared.symbol.Symbol.TheVariants.{Token, Nonterminal}
use Rattle.cs_grammar.specs.Grammar.{Production, PlainGrammar, IsRule}
use Rattle.cs_grammar.specs.Weights.{Measure}
use Rattle.cs_grammar.specs.Tree.{Tree, Leaf, Node, Forest, Bare, Grown, IsTree, AreTrees, size, sizes}
use Rattle.cs_grammar.proofs.OneTree.{one_rule}
use Rattle.cs_least.specs.Cost.Chosen.{IsChosen, AreChosen}
use Rattle.cs_least.proofs.OnCost.Rules.{some_rule}

module _ (w : Measure) (g : PlainGrammar) where
  -- a chosen tree is a tree
  mutual
    pub IsTree-chosen : (t : Tree) (x : Symbol) → IsChosen w g x t → IsTree g x t
    IsTree-chosen (Leaf s) x h = h
    IsTree-chosen (Node r f) x h = (h.0, h.1, h.2, AreTrees-chosen f h.0.right h.4)

    pub AreTrees-chosen : (f : Forest) (xs : List Symbol) → AreChosen w g xs f → AreTrees g xs f
    AreTrees-chosen Bare [] h = tt
    AreTrees-chosen Bare (x ∷ xs) h = absurd h
    AreTrees-chosen (Grown t f) [] h = absurd h
    AreTrees-chosen (Grown t f) (x ∷ xs) h = (IsTree-chosen t x h.0, AreTrees-chosen f xs h.1)

  -- a symbol has one chosen tree
  mutual
    pub one_chosen : (t u : Tree) (x : Symbol) → IsChosen w g x t → IsChosen w g x u → t ≡ u
    one_chosen (Leaf s) (Leaf s') x ht hu = let same : s ≡ s' = cc in ap Leaf same
    one_chosen (Leaf s) (Node q h) x ht hu = let e = hu.2 in absurd cc
    one_chosen (Node r f) (Leaf s) x ht hu = let e = ht.2 in absurd cc
    one_chosen (Node r f) (Node q h) x ht hu =
        let t_is = IsTree-chosen (Node r f) x ht in
        let u_is = IsTree-chosen (Node q h) x hu in
        let below = ht.3.least (Node q h) u_is in
        let above = hu.3.least (Node r f) t_is in
        let lower = ht.3.lowest q h u_is (omega (arith, below, above)) in
        let higher = hu.3.lowest r f t_is (omega (arith, below, above)) in
        let rule : r ≡ q = omega (arith, lower, higher) in
        let same = one_rule g r q ht.0 hu.0 rule ht.1 hu.1 in
        let there = subst (λ (p : Production). AreChosen w g p.right h) (sym same) hu.4 in
        let trees = all_chosen f h ht.0.right ht.4 there in
        cc

    pub all_chosen : (f h : Forest) (xs : List Symbol) → AreChosen w g xs f → AreChosen w g xs h → f ≡ h
    all_chosen Bare Bare xs cf ch = refl
    all_chosen Bare (Grown u h) [] cf ch = absurd ch
    all_chosen Bare (Grown u h) (x ∷ xs) cf ch = absurd cf
    all_chosen (Grown t f) Bare [] cf ch = absurd cf
    all_chosen (Grown t f) Bare (x ∷ xs) cf ch = absurd ch
    all_chosen (Grown t f) (Grown u h) [] cf ch = absurd cf
    all_chosen (Grown t f) (Grown u h) (x ∷ xs) cf ch =
        let first = one_chosen t u x cf.0 ch.0 in
        let others = all_chosen f h xs cf.1 ch.1 in
        cc

-- the chosen tree of a symbol, which is of least size
pub record LeastTree (w : Measure) (g : PlainGrammar) (x : Symbol) : Type 0 where
  pub tree : Tree
  pub chosen : IsChosen w g x tree
  pub least : (u : Tree) → IsTree g x u → size w tree ≤ size w u

-- the chosen trees of some symbols, which are of least size together
pub record LeastForest (w : Measure) (g : PlainGrammar) (xs : List Symbol) : Type 0 where
  pub trees : Forest
  pub chosen : AreChosen w g xs trees
  pub least : (f : Forest) → AreTrees g xs f → sizes w trees ≤ sizes w f

-- each tree of x has more than n nodes, or there is a chosen one
abbrev pub Settled : Measure → PlainGrammar → ℕ → Symbol → Type 0
Settled w g n x = ((t : Tree) → IsTree g x t → n < size w t) ⊎ LeastTree w g x

abbrev pub AreSettled : Measure → PlainGrammar → ℕ → List Symbol → Type 0
AreSettled w g n xs = ((f : Forest) → AreTrees g xs f → n < sizes w f) ⊎ LeastForest w g xs

-- each tree of m whose rule is at most i has more than n nodes
abbrev pub NoNode : Measure → PlainGrammar → ℕ → ℕ → ℕ → Type 0
NoNode w g m n i = (q : ℕ) (f : Forest) → q ≤ i → IsTree g (Nonterminal m) (Node q f) → n < size w (Node q f)

-- the first least one of those trees, which has at most n nodes
pub record BestNode (w : Measure) (g : PlainGrammar) (m n i : ℕ) : Type 0 where
  pub number : ℕ
  pub rule : Production
  pub is_rule : IsRule g number rule
  pub of_left : rule.left ≡ m
  pub trees : Forest
  pub chosen : AreChosen w g rule.right trees
  pub within : number ≤ i
  pub small : 1 + sizes w trees ≤ n
  pub least : (q : ℕ) (f : Forest) → q ≤ i → IsTree g (Nonterminal m) (Node q f) → 1 + sizes w trees ≤ size w (Node q f)
  pub lowest : (q : ℕ) (f : Forest) → q ≤ i → IsTree g (Nonterminal m) (Node q f) → size w (Node q f) ≡ 1 + sizes w trees → number ≤ q

module _ (w : Measure) (g : PlainGrammar) where
  pub forest_settled : (n : ℕ) → ((x : Symbol) → Settled w g n x) → (xs : List Symbol) → AreSettled w g n xs
  forest_settled n each [] = inr (record { trees = Bare; chosen = tt; least = λ f h. omega arith })
  forest_settled n each (x ∷ xs) =
      ⊎_elim
      (λ none. inl (λ f h. no_first f h none))
      (λ t. ⊎_elim
      (λ none. inl (λ f h. no_others f h none))
      (λ ts. inr (record { trees = Grown t.tree ts.trees; chosen = (t.chosen, ts.chosen); least = λ f h. both f h t ts }))
      (forest_settled n each xs))
      (each x)
    where
      no_first : (f : Forest) → AreTrees g (x ∷ xs) f → ((t : Tree) → IsTree g x t → n < size w t) → n < sizes w f
      no_first Bare h none = absurd h
      no_first (Grown t f) h none = omega (arith, none t h.0)

      no_others : (f : Forest) → AreTrees g (x ∷ xs) f → ((f : Forest) → AreTrees g xs f → n < sizes w f) → n < sizes w f
      no_others Bare h none = absurd h
      no_others (Grown t f) h none = omega (arith, none f h.1)

      both : (f : Forest) → AreTrees g (x ∷ xs) f → (t : LeastTree w g x) → (ts : LeastForest w g xs) → size w t.tree + sizes w ts.trees ≤ sizes w f
      both Bare h t ts = absurd h
      both (Grown u f) h t ts = omega (arith, t.least u h.0, ts.least f h.1)

  module _ (m n i : ℕ) (p : Production) (rule : IsRule g (suc i) p) where
    -- a node at most at rule i + 1 is at most at rule i, or its rule is this one
    node_cases : (q : ℕ) (f : Forest) → q ≤ suc i → IsTree g (Nonterminal m) (Node q f) → (q ≤ i) ⊎ ((q ≡ suc i) × (p.left ≡ m) × AreTrees g p.right f)
    node_cases q f le h =
        ⊎_elim (λ lower. inl (omega (arith, lower)))
        (λ not_lower.
        let same : q ≡ suc i = omega (arith, le, not_lower) in
        let is = one_rule g q (suc i) h.0 p same h.1 rule in
        inr (same, (let e = h.2 in let left : h.0.left ≡ p.left = ap (λ (o : Production). o.left) is in cc), subst (λ (o : Production). AreTrees g o.right f) is h.3))
        (cases_lt q (suc i))

    -- the best so far stays the best where no node of this rule is smaller
    best_kept : (best : BestNode w g m n i) → (p.left ≡ m → (f : Forest) → AreTrees g p.right f → sizes w best.trees ≤ sizes w f) → BestNode w g m n (suc i)
    best_kept best cheaper = record {
      number = best.number;
      rule = best.rule;
      is_rule = best.is_rule;
      of_left = best.of_left;
      trees = best.trees;
      chosen = best.chosen;
      within = omega (arith, best.within);
      small = best.small;
      least = λ q f le h. ⊎_elim (λ lower. best.least q f lower h) (λ here. omega (arith, cheaper here.1 f here.2)) (node_cases q f le h);
      lowest = λ q f le h e. ⊎_elim (λ lower. best.lowest q f lower h e) (λ here. omega (arith, here.0, best.within)) (node_cases q f le h);
    }

    -- the rule has no tree of m of at most n nodes
    pub node_skipped : (p.left ≡ m → (f : Forest) → AreTrees g p.right f → n < 1 + sizes w f) → NoNode w g m n i ⊎ BestNode w g m n i → NoNode w g m n (suc i) ⊎ BestNode w g m n (suc i)
    node_skipped none so_far =
        ⊎_elim
        (λ before. inl (λ q f le h. ⊎_elim (λ lower. before q f lower h) (λ here. none here.1 f here.2) (node_cases q f le h)))
        (λ best. inr (best_kept best (λ left f h. omega (arith, none left f h, best.small))))
        so_far

    -- the rule has a least tree of m of at most n nodes
    module _ (left : p.left ≡ m) (ts : LeastForest w g p.right) (small : 1 + sizes w ts.trees ≤ n) where
      node_taken : ((q : ℕ) (f : Forest) → q ≤ i → IsTree g (Nonterminal m) (Node q f) → 1 + sizes w ts.trees < size w (Node q f)) → BestNode w g m n (suc i)
      node_taken dearer = record {
        number = suc i;
        rule = p;
        is_rule = rule;
        of_left = left;
        trees = ts.trees;
        chosen = ts.chosen;
        within = omega arith;
        small = small;
        least = λ q f le h. ⊎_elim (λ lower. omega (arith, dearer q f lower h)) (λ here. omega (arith, ts.least f here.2)) (node_cases q f le h);
        lowest = λ q f le h e. ⊎_elim (λ lower. absurd (omega (arith, dearer q f lower h, e))) (λ here. omega (arith, here.0)) (node_cases q f le h);
      }

      node_kept : (best : BestNode w g m n i) → 1 + sizes w best.trees ≤ 1 + sizes w ts.trees → BestNode w g m n (suc i)
      node_kept best cheaper = best_kept best (λ same f h. omega (arith, ts.least f h, cheaper))

      pub node_found : NoNode w g m n i ⊎ BestNode w g m n i → BestNode w g m n (suc i)
      node_found so_far =
          ⊎_elim
          (λ none. node_taken (λ q f le h. omega (arith, none q f le h, small)))
          (λ best. ⊎_elim
          (λ less. node_taken (λ q f le h. omega (arith, best.least q f le h, less)))
          (λ not_less. node_kept best not_less)
          (cases_lt (1 + sizes w ts.trees) (1 + sizes w best.trees)))
          so_far

  nodes_settled : (n m : ℕ) → ((x : Symbol) → Settled w g n x) → (i : ℕ) → i ≤ length g.rules → NoNode w g m (suc n) i ⊎ BestNode w g m (suc n) i
  nodes_settled n m each zero le = inl (λ q f below h. absurd (omega (arith, below, h.1.above_zero)))
  nodes_settled n m each (suc i) le =
      let so_far = nodes_settled n m each i (omega (arith, le)) in
      ⊎_elim
      (λ left. ⊎_elim
      (λ none. node_skipped m (suc n) i p rule (λ e f h. omega (arith, none f h)) so_far)
      (λ ts. ⊎_elim
      (λ large. node_skipped m (suc n) i p rule (λ e f h. omega (arith, large, ts.least f h)) so_far)
      (λ small. inr (node_found m (suc n) i p rule left ts (omega (arith, small)) so_far))
      (cases_lt n (sizes w ts.trees)))
      (forest_settled n each p.right))
      (λ other. node_skipped m (suc n) i p rule (λ e. absurd (other e)) so_far)
      (cases_eq p.left m)
    where
      there : (p : Production) × IsRule g (suc i) p
      there = some_rule g i (omega (arith, le))

      p : Production
      p = there.0

      rule : IsRule g (suc i) p
      rule = there.1

  -- all trees of a token are of one size
  leaf_least : (t : ℕ) (u : Tree) → IsTree g (Token t) u → size w (Leaf t) ≤ size w u
  leaf_least t (Leaf s) h = let same : t ≡ s = cc in omega (arith, ap (λ k. size w (Leaf k)) same)
  leaf_least t (Node q f) h = let e = h.2 in absurd cc

  -- which of the two it is, is known
  pub settled : (n : ℕ) (x : Symbol) → Settled w g n x
  settled n (Token t) = inr (record { tree = Leaf t; chosen = refl; least = λ u h. leaf_least t u h })
  settled zero (Nonterminal m) = inl (λ t h. nothing t h)
    where
      nothing : (t : Tree) → IsTree g (Nonterminal m) t → zero < size w t
      nothing (Leaf s) h = absurd cc
      nothing (Node q f) h = omega arith
  settled (suc n) (Nonterminal m) =
      ⊎_elim (λ none. inl (λ t h. larger none t h)) (λ best. inr (found best)) (nodes_settled n m (settled n) (length g.rules) (omega arith))
    where
      of_rules : (q : ℕ) (f : Forest) → IsTree g (Nonterminal m) (Node q f) → q ≤ length g.rules
      of_rules q f h = omega (arith, slice_get_within g.rules (q - 1) h.0 h.1.at)

      larger : NoNode w g m (suc n) (length g.rules) → (t : Tree) → IsTree g (Nonterminal m) t → suc n < size w t
      larger none (Leaf s) h = absurd cc
      larger none (Node q f) h = none q f (of_rules q f h) h

      least : (best : BestNode w g m (suc n) (length g.rules)) → (t : Tree) → IsTree g (Nonterminal m) t → 1 + sizes w best.trees ≤ size w t
      least best (Leaf s) h = absurd cc
      least best (Node q f) h = best.least q f (of_rules q f h) h

      found : BestNode w g m (suc n) (length g.rules) → LeastTree w g (Nonterminal m)
      found best = record {
        tree = Node best.number best.trees;
        chosen = (
          best.rule,
          best.is_rule,
          ap Nonterminal (sym best.of_left),
          record { least = least best; lowest = λ q f h e. best.lowest q f (of_rules q f h) h e },
          best.chosen,
        );
        least = least best;
      }

  -- a symbol with a tree has a chosen tree, of least size
  pub chosen_exists : (x : Symbol) (t : Tree) → IsTree g x t → LeastTree w g x
  chosen_exists x t h = ⊎_elim (λ none. absurd (omega (arith, none t h))) (λ least. least) (settled (size w t) x)

  -- a chosen tree is of least size
  pub chosen_least : (x : Symbol) (t u : Tree) → IsTree g x t → IsChosen w g x u → size w u ≤ size w t
  chosen_least x t (Leaf s) ht hu = leaf_least s t (subst (λ y. IsTree g y t) hu ht)
  chosen_least x t (Node r f) ht hu = hu.3.least t ht

-- symbols with trees have chosen trees
pub chosen_forest : (w : Measure) (g : PlainGrammar) (f : Forest) (xs : List Symbol) → AreTrees g xs f → (h : Forest) × AreChosen w g xs h
chosen_forest w g Bare [] h = (Bare, tt)
chosen_forest w g Bare (x ∷ xs) h = absurd h
chosen_forest w g (Grown t f) [] h = absurd h
chosen_forest w g (Grown t f) (x ∷ xs) h =
    let first = chosen_exists w g x t h.0 in
    let others = chosen_forest w g f xs h.1 in
    (Grown first.tree others.0, (first.chosen, others.1))

-- chosen trees of some symbols are of least size together
pub forest_least : (w : Measure) (g : PlainGrammar) (f h : Forest) (xs : List Symbol) → AreChosen w g xs f → AreTrees g xs h → sizes w f ≤ sizes w h
forest_least w g Bare h [] cf hh = omega arith
forest_least w g Bare h (x ∷ xs) cf hh = absurd cf
forest_least w g (Grown t f) h [] cf hh = absurd cf
forest_least w g (Grown t f) Bare (x ∷ xs) cf hh = absurd hh
forest_least w g (Grown t f) (Grown u h) (x ∷ xs) cf hh = omega (arith, chosen_least w g x u t hh.0 cf.0, forest_least w g f h xs cf.1 hh.1)
