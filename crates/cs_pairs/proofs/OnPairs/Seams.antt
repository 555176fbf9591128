-- A tree in whose yield two tokens are side by side is cut at the lowest node above both: a tree that ends with the first, in a
-- context whose hole is directly followed by the second.
use Rattle.std.proofs.Common.{◌≡◌, ℕ, ◌+◌, ◌⊎◌, List, [], ◌∷◌, ◌++◌, refl, sym, ap, ◌∙◌, subst, ⊎_elim, inl, inr, arith, append_assoc}
use Rattle.cs_grammar.specs.declared.symbol.Symbol.{Symbol}
use Rattle.cs_grammar.specs.declared.symbol.Symbol.TheVariants.{Nonterminal}
use Rattle.cs_grammar.specs.Grammar.{Production, PlainGrammar, IsRule}
use Rattle.cs_grammar.specs.Weights.{Measure}
use Rattle.cs_grammar.specs.Tree.{Tree, Leaf, Node, Forest, Bare, Grown, IsTree, AreTrees, size, sizes, yield, yields}
use Rattle.cs_grammar.specs.Context.{Context, Hole, Under, IsContext, context_size, join, plug}
use Rattle.cs_grammar.specs.Sentence.{IsFollowed}
use Rattle.cs_grammar.proofs.Forests.{AreTrees-join, sizes-join, yields-join}
use Rattle.cs_grammar.proofs.Holes.{IsTree-plug, size-plug}
use Rattle.cs_pairs.specs.declared.kinds.kind.TreeKind.TheVariants.{Begins, Ends}
use Rattle.cs_pairs.specs.Kinds.Kinds.{IsOfKind}
use Rattle.cs_pairs.specs.Pairs.Beside.{IsBeside, IsSeam, seam_size}

-- two neighbours in a joined list are both in its first part, both in its second, or at the seam
joined_neighbours : (a b : ℕ) (u v xs ys : List ℕ) → u ++ v ≡ xs ++ a ∷ b ∷ ys → IsFollowed a b u ⊎ ((IsOfKind (Ends a) u × IsOfKind (Begins b) v) ⊎ IsFollowed a b v)
joined_neighbours a b [] v xs ys e = inr (inr (xs, ys, e))
joined_neighbours a b (x ∷ []) v [] ys e =
    let one : x ≡ a = cc in
    let other : v ≡ b ∷ ys = cc in
    inr (inl (([], ap (λ n. n ∷ []) one), (ys, other)))
joined_neighbours a b (x ∷ y ∷ u) v [] ys e =
    let one : x ≡ a = cc in
    let other : y ≡ b = cc in
    inl ([], u, ap (λ n. n ∷ y ∷ u) one ∙ ap (λ n. a ∷ n ∷ u) other)
joined_neighbours a b (x ∷ u) v (z ∷ xs) ys e =
    let others : u ++ v ≡ xs ++ a ∷ b ∷ ys = cc in
    ⊎_elim
    (λ inside. inl (x ∷ inside.0, inside.1, ap (λ (l : List ℕ). x ∷ l) inside.2))
    (λ not_inside. inr (⊎_elim (λ seam. inl ((x ∷ seam.0.0, ap (λ (l : List ℕ). x ∷ l) seam.0.1), seam.1)) (λ later. inr later) not_inside))
    (joined_neighbours a b u v xs ys others)

-- a tree as a seam of n nodes
pub record Cut (w : Measure) (g : PlainGrammar) (a b n : ℕ) : Type 0 where
  pub symbol : Symbol
  pub seam : Context × Tree
  pub is_seam : IsSeam g a b symbol seam
  pub measure : seam_size w seam ≡ n

module _ (w : Measure) (g : PlainGrammar) (a b : ℕ) where
  mutual
    cut_in : (t : Tree) (x : Symbol) (c : Context) → IsTree g x t → IsContext g x c → IsFollowed a b (yield t) → Cut w g a b (context_size w c + size w t)
    cut_in (Leaf s) x c ht hc ([], ys, e) = absurd cc
    cut_in (Leaf s) x c ht hc (y ∷ [], ys, e) = absurd cc
    cut_in (Leaf s) x c ht hc (y ∷ z ∷ xs, ys, e) = absurd cc
    cut_in (Node q f) x c ht hc h =
        let around = subst (λ y. IsContext g y c) ht.2 hc in
        let same : context_size w c + (1 + (sizes w Bare + sizes w f)) ≡ context_size w c + (1 + sizes w f) = omega arith in
        subst (Cut w g a b) same (cut_among f ht.0.right c q ht.0 [] Bare ht.1 refl tt ht.3 around h)

    cut_among : (f : Forest) (ys : List Symbol) (c : Context) (q : ℕ) (p : Production) (xs : List Symbol) (left : Forest) → IsRule g q p → p.right ≡ xs ++ ys → AreTrees g xs left → AreTrees g ys f → IsContext g (Nonterminal p.left) c → IsFollowed a b (yields f) → Cut w g a b (context_size w c + (1 + (sizes w left + sizes w f)))
    cut_among Bare ys c q p xs left rule e hl hf hc ([], rest, e') = absurd cc
    cut_among Bare ys c q p xs left rule e hl hf hc (y ∷ before, rest, e') = absurd cc
    cut_among (Grown t f) [] c q p xs left rule e hl hf hc h = absurd hf
    cut_among (Grown t f) (y ∷ ys) c q p xs left rule e hl hf hc h =
        let at : IsContext g y (Under c q left f) = (p, xs, ys, rule, e, hl, hf.1, hc) in
        let same : context_size w (Under c q left f) + size w t ≡ context_size w c + (1 + (sizes w left + sizes w (Grown t f))) = omega arith in
        ⊎_elim
        (λ inside. subst (Cut w g a b) same (cut_in t y (Under c q left f) hf.0 at inside))
        (λ not_inside. ⊎_elim
        (λ seam. record { symbol = y; seam = (Under c q left f, t); is_seam = ((at, seam.1), (hf.0, seam.0)); measure = same })
        (λ later.
        let before = join left (Grown t Bare) in
        let are = AreTrees-join g left (Grown t Bare) xs (y ∷ []) hl (hf.0, tt) in
        let same' : context_size w c + (1 + (sizes w before + sizes w f)) ≡ context_size w c + (1 + (sizes w left + sizes w (Grown t f))) = omega (arith, sizes-join w left (Grown t Bare)) in
        subst (Cut w g a b) same' (cut_among f ys c q p (xs ++ y ∷ []) before rule (e ∙ sym (append_assoc xs (y ∷ []) ys)) are hf.1 hc later))
        not_inside)
        (joined_neighbours a b (yield t) (yields f) h.0 h.1 h.2)

  pub cut : (t : Tree) → IsTree g (Nonterminal g.start) t → IsFollowed a b (yield t) → Cut w g a b (size w t)
  cut t ht h = let same : 0 + size w t ≡ size w t = omega arith in subst (Cut w g a b) same (cut_in t (Nonterminal g.start) Hole ht refl h)

-- and back
followed_later : (a b : ℕ) (u v : List ℕ) → IsFollowed a b v → IsFollowed a b (u ++ v)
followed_later a b u v h = (u ++ h.0, h.1, ap (λ (l : List ℕ). u ++ l) h.2 ∙ sym (append_assoc u h.0 (a ∷ b ∷ h.1)))

followed_sooner : (a b : ℕ) (u v : List ℕ) → IsFollowed a b u → IsFollowed a b (u ++ v)
followed_sooner a b u v h = (h.0, h.1 ++ v, ap (λ (l : List ℕ). l ++ v) h.2 ∙ append_assoc h.0 (a ∷ b ∷ h.1) v)

followed_seam : (a b : ℕ) (u v : List ℕ) → IsOfKind (Ends a) u → IsOfKind (Begins b) v → IsFollowed a b (u ++ v)
followed_seam a b u v hu hv =
    (hu.0, hv.0, ap (λ (l : List ℕ). l ++ v) hu.1 ∙ append_assoc hu.0 (a ∷ []) v ∙ ap (λ (l : List ℕ). hu.0 ++ a ∷ l) hv.1)

followed_plug : (a b : ℕ) (c : Context) (t : Tree) → IsFollowed a b (yield t) → IsFollowed a b (yield (plug c t))
followed_plug a b Hole t h = h
followed_plug a b (Under outer q left right) t h =
    followed_plug a b outer (Node q (join left (Grown t right)))
    (subst (IsFollowed a b) (sym (yields-join left (Grown t right)))
    (followed_later a b (yields left) (yield t ++ yields right) (followed_sooner a b (yield t) (yields right) h)))

seam_followed : (a b : ℕ) (c : Context) (t : Tree) → IsBeside b c → IsOfKind (Ends a) (yield t) → IsFollowed a b (yield (plug c t))
seam_followed a b Hole t hc ht = absurd hc
seam_followed a b (Under outer q left right) t hc ht =
    followed_plug a b outer (Node q (join left (Grown t right)))
    (subst (IsFollowed a b) (sym (yields-join left (Grown t right)))
    (followed_later a b (yields left) (yield t ++ yields right) (followed_seam a b (yield t) (yields right) ht hc)))

-- the tree of a seam
module _ (w : Measure) (g : PlainGrammar) (a b : ℕ) (x : Symbol) (s : Context × Tree) (is : IsSeam g a b x s) where
  pub IsTree-seam : IsTree g (Nonterminal g.start) (plug s.0 s.1)
  IsTree-seam = IsTree-plug g s.0 x s.1 is.0.0 is.1.0

  pub followed_in_seam : IsFollowed a b (yield (plug s.0 s.1))
  followed_in_seam = seam_followed a b s.0 s.1 is.0.1 is.1.1

  pub size-seam : size w (plug s.0 s.1) ≡ seam_size w s
  size-seam = size-plug w s.0 s.1
