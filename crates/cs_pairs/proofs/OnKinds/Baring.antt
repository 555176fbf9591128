-- Trees of empty yield are trees of the grammar of empty yields, and the least trees of that grammar are of empty yield.
use Rattle.std.proofs.Common.{◌≡◌, ℕ, zero, suc, ◌-◌, ◌≤◌, Bool, true, false, cond, List, [], ◌∷◌, ◌++◌, Some, length, map, refl, sym, ap, ◌∙◌, subst, ⊎_elim, inl, inr, ◌⊎◌, arith}
use Rattle.std.specs.Prelude.{slice_get, All}
use Rattle.std.proofs.lemmas.List.Elements.{All-nil, All-cons, All-head, All-tail}
use Rattle.cs_grammar.specs.declared.symbol.Symbol.{Symbol}
use Rattle.cs_grammar.specs.declared.symbol.Symbol.TheVariants.{Token, Nonterminal}
use Rattle.cs_grammar.specs.Grammar.{Production, PlainGrammar, IsRule, IsRuleOf, IsSymbol, IsGrammar}
use Rattle.cs_grammar.specs.Weights.{Measure}
use Rattle.cs_grammar.specs.Tree.{Tree, Leaf, Node, Forest, Bare, Grown, IsTree, AreTrees, size, sizes, yield, yields}
use Rattle.cs_least.specs.declared.cost.cost.Cost.{Cost}
use Rattle.cs_least.specs.Cost.Least.{IsCost}
use Rattle.cs_least.specs.Cost.Rank.{entry}
use Rattle.cs_least.proofs.OnCost.Ranks.{IsCost-same}
use Rattle.cs_pairs.specs.declared.kinds.kind.TreeKind.TheVariants.{Any, Empty}
use Rattle.cs_pairs.specs.Kinds.Kinds.{IsTreeOfKind, AreTreesOfKind}
use Rattle.cs_pairs.specs.Kinds.Bare.{has_token, bare_right, bare_rule, bare_grammar}
use Rattle.cs_pairs.specs.Kinds.Tables.{AreCosts}
use Rattle.cs_pairs.proofs.OnKinds.Joined.{joined_cases, joined_here}

-- a rule of the one grammar is a rule of the other
mapped : (xs : List Production) (i : ℕ) (p : Production) → slice_get xs i ≡ Some p → slice_get (map bare_rule xs) i ≡ Some (bare_rule p)
mapped [] zero p e = absurd cc
mapped [] (suc i) p e = absurd cc
mapped (x ∷ xs) zero p e = let same : x ≡ p = cc in ap (λ (o : Production). Some (bare_rule o)) same
mapped (x ∷ xs) (suc i) p e = mapped xs i p e

unmapped : (xs : List Production) (i : ℕ) (q : Production) → slice_get (map bare_rule xs) i ≡ Some q → (p : Production) × (slice_get xs i ≡ Some p) × (q ≡ bare_rule p)
unmapped [] zero q e = absurd cc
unmapped [] (suc i) q e = absurd cc
unmapped (x ∷ xs) zero q e = (x, refl, cc)
unmapped (x ∷ xs) (suc i) q e = unmapped xs i q e

-- which of the two a rule is
right_cases : (p : Production) → ((has_token p.right ≡ true) × (bare_right p ≡ Nonterminal p.left ∷ [])) ⊎ ((has_token p.right ≡ false) × (bare_right p ≡ p.right))
right_cases p = by_case p (has_token p.right) refl
  where
    by_case : (p : Production) (b : Bool) → has_token p.right ≡ b → ((has_token p.right ≡ true) × (bare_right p ≡ Nonterminal p.left ∷ [])) ⊎ ((has_token p.right ≡ false) × (bare_right p ≡ p.right))
    by_case p true e = inl (e, ap (λ (b : Bool). cond b (Nonterminal p.left ∷ []) p.right) e)
    by_case p false e = inr (e, ap (λ (b : Bool). cond b (Nonterminal p.left ∷ []) p.right) e)

module _ (w : Measure) (g : PlainGrammar) where
  -- trees of symbols with a token have a yield
  no_token : (f : Forest) (xs : List Symbol) → AreTrees g xs f → yields f ≡ [] → has_token xs ≡ false
  no_token Bare [] h e = refl
  no_token Bare (x ∷ xs) h e = absurd h
  no_token (Grown t f) [] h e = absurd h
  no_token (Grown t f) (x ∷ xs) h e =
      let both = parts (yield t) (yields f) e in
      first t f x xs h both.0 (no_token f xs h.1 both.1)
    where
      parts : (u v : List ℕ) → u ++ v ≡ [] → (u ≡ []) × (v ≡ [])
      parts u v is = ⊎_elim (λ p. p) (λ p. p) (joined_cases Empty u v is)

      first : (t : Tree) (f : Forest) (x : Symbol) (xs : List Symbol) → AreTrees g (x ∷ xs) (Grown t f) → yield t ≡ [] → has_token xs ≡ false → has_token (x ∷ xs) ≡ false
      first (Leaf s) f x xs h e free = absurd cc
      first (Node r l) f (Token s) xs h e free = let bad = h.0.2 in absurd cc
      first (Node r l) f (Nonterminal n) xs h e free = free

  mutual
    bare_tree : (t : Tree) (x : Symbol) → IsTree g x t → yield t ≡ [] → IsTree (bare_grammar g) x t
    bare_tree (Leaf s) x h e = absurd cc
    bare_tree (Node r f) x h e =
        let p = h.0 in
        let free = no_token f p.right h.3 e in
        let same : bare_right p ≡ p.right = ⊎_elim (λ has. absurd (let a = has.0 in cc)) (λ none. none.1) (right_cases p) in
        (bare_rule p, record { above_zero = h.1.above_zero; at = mapped g.rules (r - 1) p h.1.at }, h.2, subst (λ (l : List Symbol). AreTrees (bare_grammar g) l f) (sym same) (bare_trees f p.right h.3 e))

    bare_trees : (f : Forest) (xs : List Symbol) → AreTrees g xs f → yields f ≡ [] → AreTrees (bare_grammar g) xs f
    bare_trees Bare [] h e = tt
    bare_trees Bare (x ∷ xs) h e = absurd h
    bare_trees (Grown t f) [] h e = absurd h
    bare_trees (Grown t f) (x ∷ xs) h e =
        let parts = ⊎_elim (λ p. p) (λ p. p) (joined_cases Empty (yield t) (yields f) e) in
        (bare_tree t x h.0 parts.0, bare_trees f xs h.1 parts.1)

  -- without the rules that lead a left side to itself
  pub record Stripped (x : Symbol) (t : Tree) : Type 0 where
    pub tree : Tree
    pub is_tree : IsTreeOfKind g Empty x tree
    pub small : size w tree ≤ size w t

  pub record AllStripped (xs : List Symbol) (f : Forest) : Type 0 where
    pub trees : Forest
    pub are : AreTreesOfKind g Empty xs trees
    pub small : sizes w trees ≤ sizes w f

  free_first : (x : Symbol) (xs : List Symbol) → has_token (x ∷ xs) ≡ false → (n : ℕ) × (x ≡ Nonterminal n) × (has_token xs ≡ false)
  free_first (Token t) xs e = absurd cc
  free_first (Nonterminal n) xs e = (n, refl, e)

  mutual
    strip : (t : Tree) (n : ℕ) → IsTree (bare_grammar g) (Nonterminal n) t → Stripped (Nonterminal n) t
    strip (Leaf s) n h = absurd cc
    strip (Node r f) n h =
        let v = unmapped g.rules (r - 1) h.0 h.1.at in
        let p = v.0 in
        let rule : IsRule g r p = record { above_zero = h.1.above_zero; at = v.1 } in
        let is_left : Nonterminal n ≡ Nonterminal p.left = h.2 ∙ ap (λ (o : Production). Nonterminal o.left) v.2 in
        let children : AreTrees (bare_grammar g) (bare_right p) f = subst (λ (o : Production). AreTrees (bare_grammar g) o.right f) v.2 h.3 in
        ⊎_elim
        (λ has. own f p.left n r is_left (subst (λ (l : List Symbol). AreTrees (bare_grammar g) l f) has.1 children))
        (λ none.
        let l = strip_all f p.right none.0 (subst (λ (l : List Symbol). AreTrees (bare_grammar g) l f) none.1 children) in
        record { tree = Node r l.trees; is_tree = ((p, rule, is_left, l.are.0), l.are.1); small = omega (arith, l.small) })
        (right_cases p)

    own : (f : Forest) (left n r : ℕ) → Nonterminal n ≡ Nonterminal left → AreTrees (bare_grammar g) (Nonterminal left ∷ []) f → Stripped (Nonterminal n) (Node r f)
    own Bare left n r e h = absurd h
    own (Grown t f) left n r e h =
        let v = strip t left h.0 in
        record { tree = v.tree; is_tree = subst (λ y. IsTreeOfKind g Empty y v.tree) (sym e) v.is_tree; small = omega (arith, v.small) }

    strip_all : (f : Forest) (xs : List Symbol) → has_token xs ≡ false → AreTrees (bare_grammar g) xs f → AllStripped xs f
    strip_all Bare [] e h = record { trees = Bare; are = (tt, refl); small = omega arith }
    strip_all Bare (x ∷ xs) e h = absurd h
    strip_all (Grown t f) [] e h = absurd h
    strip_all (Grown t f) (x ∷ xs) e h =
        let v = free_first x xs e in
        let t' = strip t v.0 (subst (λ y. IsTree (bare_grammar g) y t) v.1 h.0) in
        let f' = strip_all f xs v.2 h.1 in
        record {
          trees = Grown t'.tree f'.trees;
          are = ((subst (λ y. IsTree g y t'.tree) (sym v.1) t'.is_tree.0, f'.are.0), joined_here Empty (yield t'.tree) (yields f'.trees) t'.is_tree.1 f'.are.1);
          small = omega (arith, t'.small, f'.small);
        }

  -- so any tree there costs what an empty one costs here
  pub bare_cost_is : (n : ℕ) (c : Cost) → IsCost w.limit (IsTreeOfKind (bare_grammar g) Any (Nonterminal n)) (size w) c → IsCost w.limit (IsTreeOfKind g Empty (Nonterminal n)) (size w) c
  bare_cost_is n c h =
      IsCost-same w.limit (IsTreeOfKind (bare_grammar g) Any (Nonterminal n)) (IsTreeOfKind g Empty (Nonterminal n)) (size w) (size w) c
      (λ t is. let v = strip t n is.0 in (v.tree, v.is_tree, v.small))
      (λ t is. (t, (bare_tree t (Nonterminal n) is.0 is.1, tt), omega arith))
      h

  pub bare_costs : (row : List Cost) → AreCosts w (bare_grammar g) Any row → AreCosts w g Empty row
  bare_costs row h = record { many = h.many; exact = λ n. bare_cost_is n (entry row n) (h.exact n) }

-- the grammar of empty yields is well formed
fits_all : (g : PlainGrammar) (xs : List Production) → All (IsRuleOf g.tokens g.nonterminals) xs → All (IsRuleOf g.tokens g.nonterminals) (map bare_rule xs)
fits_all g [] h = All-nil (IsRuleOf g.tokens g.nonterminals)
fits_all g (p ∷ xs) h = All-cons (IsRuleOf g.tokens g.nonterminals) (bare_rule p) (map bare_rule xs) (fits p (All-head (IsRuleOf g.tokens g.nonterminals) p xs h)) (fits_all g xs (All-tail (IsRuleOf g.tokens g.nonterminals) p xs h))
  where
    fits : (p : Production) → IsRuleOf g.tokens g.nonterminals p → IsRuleOf g.tokens g.nonterminals (bare_rule p)
    fits p is =
        let P = λ (l : List Symbol). (length l ≤ 128) × All (IsSymbol g.tokens g.nonterminals) l in
        let both : P (bare_right p) = ⊎_elim
        (λ has. subst P (sym has.1) (omega arith, All-cons (IsSymbol g.tokens g.nonterminals) (Nonterminal p.left) [] is.left (All-nil (IsSymbol g.tokens g.nonterminals))))
        (λ none. subst P (sym none.1) (is.short, is.right))
        (right_cases p) in
        record { left = is.left; short = both.0; right = both.1 }

map_many : (xs : List Production) → length (map bare_rule xs) ≡ length xs
map_many [] = refl
map_many (x ∷ xs) = ap suc (map_many xs)

pub bare_fits : (g : PlainGrammar) → IsGrammar g → IsGrammar (bare_grammar g)
bare_fits g h = record {
  tokens = h.tokens;
  nonterminals = h.nonterminals;
  few = omega (arith, map_many g.rules, h.few);
  start = h.start;
  rules = fits_all g g.rules h.rules;
}
