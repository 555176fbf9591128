-- Contexts with a tree in the hole's place.
use Rattle.std.proofs.Common.{◌≡◌, ℕ, ◌+◌, List, [], ◌∷◌, ◌++◌, refl, sym, ap, ◌∙◌, subst, ⊎_elim, arith, append_assoc, append-nil, inl, inr}
use Rattle.cs_grammar.specs.declared.symbol.Symbol.{Symbol}
use Rattle.cs_grammar.specs.declared.symbol.Symbol.TheVariants.{Nonterminal}
use Rattle.cs_grammar.specs.Grammar.{Production, PlainGrammar, IsRule}
use Rattle.cs_grammar.specs.Weights.{Measure}
use Rattle.cs_grammar.specs.Tree.{Tree, Leaf, Node, Forest, Bare, Grown, IsTree, AreTrees, size, sizes, code}
use Rattle.cs_grammar.specs.Context.{Context, Hole, Under, IsContext, context_size, code_before, code_after, join, plug}
use Rattle.cs_grammar.specs.Uses.{UsesRule, SomeUsesRule}
use Rattle.cs_grammar.proofs.Forests.{AreTrees-join, sizes-join, codes_of-join}

pub IsTree-plug : (g : PlainGrammar) (c : Context) (b : Symbol) (t : Tree) → IsContext g b c → IsTree g b t → IsTree g (Nonterminal g.start) (plug c t)
IsTree-plug g Hole b t hc ht = subst (λ x. IsTree g x t) hc ht
IsTree-plug g (Under outer r left right) b t hc ht =
    let trees = AreTrees-join g left (Grown t right) hc.1 (b ∷ hc.2) hc.5 (ht, hc.6) in
    IsTree-plug g outer (Nonterminal hc.0.left) (Node r (join left (Grown t right))) hc.7
    (hc.0, hc.3, refl, subst (λ xs. AreTrees g xs (join left (Grown t right))) (sym hc.4) trees)

pub size-plug : (w : Measure) (c : Context) (t : Tree) → size w (plug c t) ≡ context_size w c + size w t
size-plug w Hole t = omega arith
size-plug w (Under outer r left right) t =
    omega (arith, size-plug w outer (Node r (join left (Grown t right))), sizes-join w left (Grown t right))

pub code-plug : (c : Context) (t : Tree) → code (plug c t) ≡ code_before c ++ code t ++ code_after c
code-plug Hole t = sym (append-nil (code t))
code-plug (Under outer r left right) t =
    code-plug outer (Node r (join left (Grown t right)))
    ∙ ap (λ (s : List ℕ). code_before outer ++ r ∷ s ++ code_after outer) (codes_of-join left (Grown t right))
    ∙ simp append_assoc

-- A tree in a context with a rule in it is a node of that rule in another context.
pub record Found (w : Measure) (g : PlainGrammar) (r n : ℕ) : Type 0 where
  pub rule : Production
  pub children : Forest
  pub context : Context
  pub number : IsRule g r rule
  pub trees : AreTrees g rule.right children
  pub around : IsContext g (Nonterminal rule.left) context
  pub measure : context_size w context + (1 + sizes w children) ≡ n

module _ (w : Measure) (g : PlainGrammar) (r : ℕ) where
  mutual
    pub found : (t : Tree) (x : Symbol) (c : Context) → IsTree g x t → IsContext g x c → UsesRule r t → Found w g r (context_size w c + size w t)
    found (Leaf s) x c ht hc h = absurd h
    found (Node q f) x c ht hc h =
        let around = subst (λ y. IsContext g y c) ht.2 hc in
        ⊎_elim
        (λ same. record { rule = ht.0; children = f; context = c; number = subst (λ n. IsRule g n ht.0) same ht.1; trees = ht.3; around = around; measure = refl })
        (λ inside.
        let same : context_size w c + (1 + (sizes w Bare + sizes w f)) ≡ context_size w c + (1 + sizes w f) = omega arith in
        subst (Found w g r) same (found_among f ht.0.right c q ht.0 [] Bare ht.1 refl tt ht.3 around inside))
        h

    pub found_among : (f : Forest) (ys : List Symbol) (c : Context) (q : ℕ) (p : Production) (xs : List Symbol) (left : Forest) → IsRule g q p → p.right ≡ xs ++ ys → AreTrees g xs left → AreTrees g ys f → IsContext g (Nonterminal p.left) c → SomeUsesRule r f → Found w g r (context_size w c + (1 + (sizes w left + sizes w f)))
    found_among Bare ys c q p xs left rule e hl hf hc h = absurd h
    found_among (Grown t f) [] c q p xs left rule e hl hf hc h = absurd hf
    found_among (Grown t f) (y ∷ ys) c q p xs left rule e hl hf hc h =
        ⊎_elim
        (λ here.
        let same : context_size w (Under c q left f) + size w t ≡ context_size w c + (1 + (sizes w left + sizes w (Grown t f))) = omega arith in
        subst (Found w g r) same (found t y (Under c q left f) hf.0 (p, xs, ys, rule, e, hl, hf.1, hc) here))
        (λ later.
        let before = join left (Grown t Bare) in
        let are = AreTrees-join g left (Grown t Bare) xs (y ∷ []) hl (hf.0, tt) in
        let same : context_size w c + (1 + (sizes w before + sizes w f)) ≡ context_size w c + (1 + (sizes w left + sizes w (Grown t f))) = omega (arith, sizes-join w left (Grown t Bare)) in
        subst (Found w g r) same (found_among f ys c q p (xs ++ y ∷ []) before rule (e ∙ sym (append_assoc xs (y ∷ []) ys)) are hf.1 hc later))
        h

  -- a tree of the start symbol that meets a rule goal is such a node in a context
  pub found_whole : (t : Tree) → IsTree g (Nonterminal g.start) t → UsesRule r t → Found w g r (size w t)
  found_whole t ht h = let same : 0 + size w t ≡ size w t = omega arith in subst (Found w g r) same (found t (Nonterminal g.start) Hole ht refl h)

  -- and the other way round
  SomeUsesRule-join : (f : Forest) (t : Tree) (right : Forest) → UsesRule r t → SomeUsesRule r (join f (Grown t right))
  SomeUsesRule-join Bare t right h = inl h
  SomeUsesRule-join (Grown u f) t right h = inr (SomeUsesRule-join f t right h)

  pub UsesRule-plug : (c : Context) (t : Tree) → UsesRule r t → UsesRule r (plug c t)
  UsesRule-plug Hole t h = h
  UsesRule-plug (Under outer q left right) t h = UsesRule-plug outer (Node q (join left (Grown t right))) (inr (SomeUsesRule-join left t right h))
