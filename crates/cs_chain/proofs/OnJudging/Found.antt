-- The parts of a tree that meets a chain.
use Rattle.std.proofs.Common.{◌≡◌, ℕ, ◌+◌, ◌-◌, List, [], ◌∷◌, ◌++◌, refl, sym, ap, ◌∙◌, subst, ⊎_elim, arith, append_assoc}
use Rattle.cs_grammar.specs.declared.symbol.Symbol.{Symbol}
use Rattle.cs_grammar.specs.declared.symbol.Symbol.TheVariants.{Nonterminal}
use Rattle.cs_grammar.specs.Grammar.{Production, PlainGrammar, IsRule}
use Rattle.cs_grammar.specs.Weights.{Measure}
use Rattle.cs_grammar.specs.Tree.{Tree, Leaf, Node, Forest, Bare, Grown, IsTree, AreTrees, size, sizes}
use Rattle.cs_grammar.specs.Context.{Context, Hole, Under, IsContext, context_size, join}
use Rattle.cs_grammar.proofs.Forests.{AreTrees-join, sizes-join}
use Rattle.cs_chain.proofs.OnJudging.Cut.{cut_at}
use Rattle.cs_chain.specs.declared.chains.chain.Chain.{Chain}
use Rattle.cs_chain.specs.Judging.Meets.{IsLinked, MeetsChain, SomeMeetsChain, IsMet}
use Rattle.cs_chain.specs.Judging.Verdict.{ChainRules, ChainTrees, AreOf}

-- the size of the tree of these
abbrev pub trees_size : Measure → ChainTrees → ℕ
trees_size w ts =
    context_size w ts.context + (1 + (sizes w ts.left + sizes w ts.right)) + (1 + (sizes w ts.low_left + sizes w ts.low_right)) + (1 + sizes w ts.children)

-- a tree of so many nodes that meets the chain, by its parts
pub record FoundIn (w : Measure) (g : PlainGrammar) (c : Chain) (n : ℕ) : Type 0 where
  pub rules : ChainRules g c
  pub trees : ChainTrees
  pub are : AreOf rules (IsContext g) (AreTrees g) trees
  pub measure : trees_size w trees ≡ n

module _ (w : Measure) (g : PlainGrammar) (c : Chain) where
  here_in : (r : ℕ) (o : Production) (f : Forest) (d : Context) → IsRule g r o → AreTrees g o.right f → IsContext g (Nonterminal o.left) d → r ≡ c.outer → IsLinked c f → FoundIn w g c (context_size w d + (1 + sizes w f))
  here_in r o f d rule hf hd same linked =
      let v = cut_at w g f o.right (c.place - 1) (Node c.middle linked.grandchildren) hf linked.at in
      let is = v.is_tree in
      let u = cut_at w g linked.grandchildren is.0.right (c.spot - 1) (Node c.inner linked.under.grandchildren) is.3 linked.under.at in
      let low = u.is_tree in
      record {
        rules = record {
          outer = o;
          middle = is.0;
          inner = low.0;
          before = v.before;
          behind = v.behind;
          low_before = u.before;
          low_behind = u.behind;
          is_outer = record {
            number = subst (λ n. IsRule g n o) same rule;
            right_side = v.symbols ∙ ap (λ (b : Symbol). v.before ++ b ∷ v.behind) is.2;
            place = omega (arith, v.at, linked.above_zero);
          };
          is_middle = record {
            number = is.1;
            right_side = u.symbols ∙ ap (λ (b : Symbol). u.before ++ b ∷ u.behind) low.2;
            place = omega (arith, u.at, linked.under.above_zero);
          };
          is_inner = low.1;
        };
        trees = record {
          context = d;
          left = v.left;
          right = v.right;
          low_left = u.left;
          low_right = u.right;
          children = linked.under.grandchildren;
        };
        are = record {
          around = hd;
          left = v.left_trees;
          right = v.right_trees;
          low_left = u.left_trees;
          low_right = u.right_trees;
          children = low.3;
        };
        measure = omega (arith, v.measure, u.measure);
      }

  mutual
    found_in : (t : Tree) (x : Symbol) (d : Context) → IsTree g x t → IsContext g x d → MeetsChain c t → FoundIn w g c (context_size w d + size w t)
    found_in (Leaf s) x d ht hd h = absurd h
    found_in (Node r f) x d ht hd h =
        let around = subst (λ y. IsContext g y d) ht.2 hd in
        ⊎_elim
        (λ here. here_in r ht.0 f d ht.1 ht.3 around here.0 here.1)
        (λ inside.
        let same : context_size w d + (1 + (sizes w Bare + sizes w f)) ≡ context_size w d + (1 + sizes w f) = omega arith in
        subst (FoundIn w g c) same (found_in_among f ht.0.right d r ht.0 [] Bare ht.1 refl tt ht.3 around inside))
        h

    found_in_among : (f : Forest) (ys : List Symbol) (d : Context) (r : ℕ) (o : Production) (xs : List Symbol) (left : Forest) → IsRule g r o → o.right ≡ xs ++ ys → AreTrees g xs left → AreTrees g ys f → IsContext g (Nonterminal o.left) d → SomeMeetsChain c f → FoundIn w g c (context_size w d + (1 + (sizes w left + sizes w f)))
    found_in_among Bare ys d r o xs left rule e hl hf hd h = absurd h
    found_in_among (Grown t f) [] d r o xs left rule e hl hf hd h = absurd hf
    found_in_among (Grown t f) (y ∷ ys) d r o xs left rule e hl hf hd h =
        ⊎_elim
        (λ here.
        let same : context_size w (Under d r left f) + size w t ≡ context_size w d + (1 + (sizes w left + sizes w (Grown t f))) = omega arith in
        subst (FoundIn w g c) same (found_in t y (Under d r left f) hf.0 (o, xs, ys, rule, e, hl, hf.1, hd) here))
        (λ later.
        let before = join left (Grown t Bare) in
        let are = AreTrees-join g left (Grown t Bare) xs (y ∷ []) hl (hf.0, tt) in
        let same : context_size w d + (1 + (sizes w before + sizes w f)) ≡ context_size w d + (1 + (sizes w left + sizes w (Grown t f))) = omega (arith, sizes-join w left (Grown t Bare)) in
        subst (FoundIn w g c) same (found_in_among f ys d r o (xs ++ y ∷ []) before rule (e ∙ sym (append_assoc xs (y ∷ []) ys)) are hf.1 hd later))
        h

  pub found_in_whole : (t : Tree) → IsMet g c t → FoundIn w g c (size w t)
  found_in_whole t h =
      let same : 0 + size w t ≡ size w t = omega arith in
      subst (FoundIn w g c) same (found_in t (Nonterminal g.start) Hole h.0 refl h.1)
