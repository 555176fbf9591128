-- A kind and a symbol with a tree have a chosen tree.
use Rattle.std.proofs.Common.{◌≡◌, ℕ, zero, suc, ◌+◌, ◌-◌, ◌<◌, ◌≤◌, ◌⊎◌, List, [], ◌∷◌, length, refl, sym, ap, ◌∙◌, subst, ⊎_elim, inl, inr, arith}
use Rattle.std.proofs.lemmas.Bool.{cases_eq, cases_lt}
use Rattle.std.proofs.lemmas.Option.{slice_get_within}
use Rattle.cs_grammar.specs.declared.symbol.Symbol.{Symbol}
use Rattle.cs_grammar.specs.declared.symbol.Symbol.TheVariants.{Token, Nonterminal}
use Rattle.cs_grammar.specs.Grammar.{Production, PlainGrammar, IsRule}
use Rattle.cs_grammar.specs.Weights.{Measure}
use Rattle.cs_grammar.specs.Tree.{IsTree, Tree, Leaf, Node, Forest, Bare, Grown, size, sizes}
use Rattle.cs_grammar.proofs.OneTree.{one_rule}
use Rattle.cs_least.proofs.OnCost.Rules.{some_rule}
use Rattle.cs_pairs.specs.declared.kinds.kind.TreeKind.{TreeKind}
use Rattle.cs_pairs.specs.declared.kinds.kind.TreeKind.TheVariants.{Any, Empty, Begins, Ends}
use Rattle.cs_pairs.specs.Kinds.Kinds.{IsTreeOfKind, AreTreesOfKind, before, behind}
use Rattle.cs_pairs.specs.Kinds.Ways.{AreHere, AreLater, joint_size}
use Rattle.cs_pairs.specs.Kinds.ChosenKind.{IsChosenOfKind, AreChosenOfKind}
use Rattle.cs_pairs.proofs.OnKinds.Sweeping.{one_way}
use Rattle.cs_pairs.proofs.OnKinds.ChosenKinds.{AreTrees-of_kind, here_least, later_least, list_least}
use Rattle.cs_pairs.proofs.OnKinds.FirstLeast.{IsSettledAt, FirstLeast, AreLarge, first_least}

-- each tree of x that is of the kind has more than n nodes, or there is a chosen one
abbrev pub Settled : Measure → PlainGrammar → ℕ → TreeKind → Symbol → Type 0
Settled w g n k x = ((t : Tree) → IsTreeOfKind g k x t → n < size w t) ⊎ ((t : Tree) × IsChosenOfKind w g k x t)

abbrev pub AreSettled : Measure → PlainGrammar → ℕ → TreeKind → List Symbol → Type 0
AreSettled w g n k xs = ((f : Forest) → AreTreesOfKind g k xs f → n < sizes w f) ⊎ ((f : Forest) × AreChosenOfKind w g k xs f)

module _ (w : Measure) (g : PlainGrammar) (n : ℕ) (k : TreeKind) (x : Symbol) (xs : List Symbol) where
  -- lists in one of the ways are larger than n, or there is one of chosen trees, which is the least of them
  abbrev Here : Type 0
  Here = ((p : Tree × Forest) → AreHere g k x xs p → n < joint_size w p) ⊎ ((p : Tree × Forest) × IsChosenOfKind w g k x p.0 × AreChosenOfKind w g (behind k) xs p.1)

  abbrev Later : Type 0
  Later = ((p : Tree × Forest) → AreLater g k x xs p → n < joint_size w p) ⊎ ((p : Tree × Forest) × IsChosenOfKind w g (before k) x p.0 × AreChosenOfKind w g k xs p.1)

  here_settled : Settled w g n k x → AreSettled w g n (behind k) xs → Here
  here_settled first others =
      ⊎_elim
      (λ none. inl (λ p is. omega (arith, none p.0 is.0)))
      (λ t. ⊎_elim (λ none. inl (λ p is. omega (arith, none p.1 is.1))) (λ f. inr ((t.0, f.0), t.1, f.1)) others)
      first

  later_settled : Settled w g n (before k) x → AreSettled w g n k xs → Later
  later_settled first others =
      ⊎_elim
      (λ none. inl (λ p is. omega (arith, none p.0 is.0)))
      (λ t. ⊎_elim (λ none. inl (λ p is. omega (arith, none p.1 is.1))) (λ f. inr ((t.0, f.0), t.1, f.1)) others)
      first

  least_here : (way : (p : Tree × Forest) × IsChosenOfKind w g k x p.0 × AreChosenOfKind w g (behind k) xs p.1) → (p : Tree × Forest) → AreHere g k x xs p → joint_size w way.0 ≤ joint_size w p
  least_here way p is = here_least w g k x xs way.0.0 way.0.1 way.1 (λ h l. list_least w g way.0.1 h (behind k) xs l way.2) p is

  least_later : (way : (p : Tree × Forest) × IsChosenOfKind w g (before k) x p.0 × AreChosenOfKind w g k xs p.1) → (p : Tree × Forest) → AreLater g k x xs p → joint_size w way.0 ≤ joint_size w p
  least_later way p is = later_least w g k x xs way.0.0 way.0.1 way.1 (λ h l. list_least w g way.0.1 h k xs l way.2) p is

  larger : ((p : Tree × Forest) → AreHere g k x xs p → n < joint_size w p) → ((p : Tree × Forest) → AreLater g k x xs p → n < joint_size w p) → (f : Forest) → AreTreesOfKind g k (x ∷ xs) f → n < sizes w f
  larger none_here none_later f is =
      ⊎_elim (λ way. omega (arith, none_here way.0 way.1, way.2)) (λ way. omega (arith, none_later way.0 way.1, way.2)) (one_way w g k x xs f is)

  ways_settled : Here → Later → AreSettled w g n k (x ∷ xs)
  ways_settled here later =
      ⊎_elim
      (λ none_here. ⊎_elim
      (λ none_later. inl (larger none_here none_later))
      (λ v. ⊎_elim
      (λ above. inl (larger none_here (λ p is. omega (arith, above, least_later v p is))))
      (λ small. inr (Grown v.0.0 v.0.1, inr (v.1, v.2, λ p is. omega (arith, small, none_here p is))))
      (cases_lt n (joint_size w v.0)))
      later)
      (λ way. ⊎_elim
      (λ none_later. ⊎_elim
      (λ above. inl (larger (λ p is. omega (arith, above, least_here way p is)) none_later))
      (λ small. inr (Grown way.0.0 way.0.1, inl (way.1, way.2, λ p is. omega (arith, small, none_later p is))))
      (cases_lt n (joint_size w way.0)))
      (λ v. ⊎_elim
      (λ less. inr (Grown v.0.0 v.0.1, inr (v.1, v.2, λ p is. omega (arith, less, least_here way p is))))
      (λ no_less. inr (Grown way.0.0 way.0.1, inl (way.1, way.2, λ p is. omega (arith, no_less, least_later v p is))))
      (cases_lt (joint_size w v.0) (joint_size w way.0)))
      later)
      here

  pub first_settled : Settled w g n k x → Settled w g n (before k) x → AreSettled w g n (behind k) xs → AreSettled w g n k xs → AreSettled w g n k (x ∷ xs)
  first_settled own other rest whole = ways_settled (here_settled own rest) (later_settled other whole)

module _ (w : Measure) (g : PlainGrammar) where
  pub list_settled : (n : ℕ) → ((k : TreeKind) (x : Symbol) → Settled w g n k x) → (k : TreeKind) (xs : List Symbol) → AreSettled w g n k xs
  list_settled n each Any [] = inr (Bare, tt)
  list_settled n each Empty [] = inr (Bare, refl)
  list_settled n each (Begins b) [] = inl (λ f h. none f h)
    where
      none : (f : Forest) → AreTreesOfKind g (Begins b) [] f → n < sizes w f
      none Bare h = let e = h.1.1 in absurd cc
      none (Grown t f) h = absurd h.0
  list_settled n each (Ends a) [] = inl (λ f h. none f h)
    where
      none : (f : Forest) → AreTreesOfKind g (Ends a) [] f → n < sizes w f
      none Bare (is, ([], e)) = absurd cc
      none Bare (is, (y ∷ rest, e)) = absurd cc
      none (Grown t f) h = absurd h.0
  list_settled n each k (x ∷ xs) =
      first_settled w g n k x xs (each k x) (each (before k) x) (list_settled n each (behind k) xs) (list_settled n each k xs)

  module _ (n m : ℕ) (k : TreeKind) (each : (j : TreeKind) (x : Symbol) → Settled w g n j x) where
    -- nodes of m whose rule is the one at an index
    pub record NodeAt (i : ℕ) : Type 0 where
      pub rule : Production
      pub is_rule : IsRule g (suc i) rule
      pub of_left : rule.left ≡ m
      pub children : Forest
      pub are : AreTreesOfKind g k rule.right children

    abbrev HasChosen : (i : ℕ) → NodeAt i → Type 0
    HasChosen i a = AreChosenOfKind w g k a.rule.right a.children

    abbrev node_size : (i : ℕ) → NodeAt i → ℕ
    node_size i a = 1 + sizes w a.children

    node_settled : (i : ℕ) → IsSettledAt HasChosen node_size (suc n) i
    node_settled i =
        ⊎_elim
        (λ within.
        let there = some_rule g i within in
        let p = there.0 in
        let rule = there.1 in
        ⊎_elim
        (λ left. ⊎_elim
        (λ none. inl (λ a. omega (arith, none a.children (here p rule a))))
        (λ f. inr (
          record { rule = p; is_rule = rule; of_left = left; children = f.0; are = AreTrees-of_kind w g f.0 k p.right f.1 },
          f.1,
          λ a. omega (arith, list_least w g f.0 a.children k p.right (here p rule a) f.1),
        ))
        (list_settled n each k p.right))
        (λ other. inl (λ a. absurd (other (ap (λ (o : Production). o.left) (one_rule g (suc i) (suc i) p a.rule refl rule a.is_rule) ∙ a.of_left))))
        (cases_eq p.left m))
        (λ past. inl (λ a. let e : suc i - 1 ≡ i = omega arith in absurd (omega (arith, slice_get_within g.rules (suc i - 1) a.rule a.is_rule.at, e, past))))
        (cases_lt i (length g.rules))
      where
        here : (p : Production) → IsRule g (suc i) p → (a : NodeAt i) → AreTreesOfKind g k p.right a.children
        here p rule a = subst (λ (o : Production). AreTreesOfKind g k o.right a.children) (one_rule g (suc i) (suc i) a.rule p refl a.is_rule rule) a.are

    -- a node is one of those
    node_at : (q : ℕ) (f : Forest) → IsTreeOfKind g k (Nonterminal m) (Node q f) → (i : ℕ) × (i < length g.rules) × (q ≡ suc i) × ((a : NodeAt i) × (node_size i a ≡ size w (Node q f)))
    node_at zero f h = absurd (omega (arith, h.0.1.above_zero))
    node_at (suc i) f h =
        let e : suc i - 1 ≡ i = omega arith in
        let left : h.0.0.left ≡ m = (let d = h.0.2 in cc) in (
          i,
          omega (arith, slice_get_within g.rules (suc i - 1) h.0.0 h.0.1.at, e),
          refl,
          (record { rule = h.0.0; is_rule = h.0.1; of_left = left; children = f; are = (h.0.3, h.1) }, refl),
        )

    pub nonterminal_settled : Settled w g (suc n) k (Nonterminal m)
    nonterminal_settled =
        ⊎_elim
        (λ large. inl (λ t h. above large t h))
        (λ best. inr (
          Node (suc best.number) best.thing.children,
          (
            best.thing.rule,
            best.thing.is_rule,
            ap Nonterminal (sym best.thing.of_left),
            record {
              least = λ u h. least best u h;
              lowest = λ q f h e.
                  let way = node_at q f h in
                  let lower = best.lowest way.0 way.1 way.3.0 (way.3.1 ∙ e) in
                  omega (arith, lower, way.2);
            },
            best.good,
          ),
        ))
        (first_least HasChosen node_size (suc n) node_settled (length g.rules))
      where
        above : AreLarge HasChosen node_size (suc n) (length g.rules) → (t : Tree) → IsTreeOfKind g k (Nonterminal m) t → suc n < size w t
        above large (Leaf s) h = let e = h.0 in absurd cc
        above large (Node q f) h = let way = node_at q f h in omega (arith, large way.0 way.1 way.3.0, way.3.1)

        least : (best : FirstLeast HasChosen node_size (suc n) (length g.rules)) → (t : Tree) → IsTreeOfKind g k (Nonterminal m) t → 1 + sizes w best.thing.children ≤ size w t
        least best (Leaf s) h = let e = h.0 in absurd cc
        least best (Node q f) h = let way = node_at q f h in omega (arith, best.least way.0 way.1 way.3.0, way.3.1)

  -- a leaf is of a kind, or no tree of its token is
  leaf_settled : (n : ℕ) (k : TreeKind) (t : ℕ) → Settled w g n k (Token t)
  leaf_settled n Any t = inr (Leaf t, (refl, tt))
  leaf_settled n Empty t = inl (λ u h. none u h)
    where
      none : (u : Tree) → IsTreeOfKind g Empty (Token t) u → n < size w u
      none (Leaf s) h = let e = h.1 in absurd cc
      none (Node r f) h = let e = h.0.2 in absurd cc
  leaf_settled n (Begins b) t =
      ⊎_elim
      (λ same. inr (Leaf t, (refl, ([], ap (λ i. i ∷ []) same))))
      (λ other. inl (λ u h. none other u h))
      (cases_eq t b)
    where
      none : (t ≡ b → ⊥) → (u : Tree) → IsTreeOfKind g (Begins b) (Token t) u → n < size w u
      none other (Leaf s) h = absurd (other (let d = h.0 in let e = h.1.1 in cc))
      none other (Node r f) h = let e = h.0.2 in absurd cc
  leaf_settled n (Ends a) t =
      ⊎_elim
      (λ same. inr (Leaf t, (refl, ([], ap (λ i. i ∷ []) same))))
      (λ other. inl (λ u h. none other u h))
      (cases_eq t a)
    where
      none : (t ≡ a → ⊥) → (u : Tree) → IsTreeOfKind g (Ends a) (Token t) u → n < size w u
      none other (Leaf s) (is, ([], e)) = absurd (other (let d : t ≡ s = cc in let b : s ≡ a = cc in d ∙ b))
      none other (Leaf s) (is, (y ∷ [], e)) = absurd cc
      none other (Leaf s) (is, (y ∷ z ∷ rest, e)) = absurd cc
      none other (Node r f) h = let e = h.0.2 in absurd cc

  -- which of the two it is, is known
  pub settled : (n : ℕ) (k : TreeKind) (x : Symbol) → Settled w g n k x
  settled n k (Token t) = leaf_settled n k t
  settled zero k (Nonterminal m) = inl (λ t h. node_above t h.0)
    where
      node_above : (t : Tree) → IsTree g (Nonterminal m) t → zero < size w t
      node_above (Leaf s) is = absurd cc
      node_above (Node q f) is = omega arith
  settled (suc n) k (Nonterminal m) = nonterminal_settled n m k (settled n)

  pub of_kind_exists : (k : TreeKind) (x : Symbol) (t : Tree) → IsTreeOfKind g k x t → (u : Tree) × IsChosenOfKind w g k x u
  of_kind_exists k x t h = ⊎_elim (λ none. absurd (omega (arith, none t h))) (λ u. u) (settled (size w t) k x)

  pub list_exists : (k : TreeKind) (xs : List Symbol) (f : Forest) → AreTreesOfKind g k xs f → (h : Forest) × AreChosenOfKind w g k xs h
  list_exists k xs f h = ⊎_elim (λ none. absurd (omega (arith, none f h))) (λ l. l) (list_settled (sizes w f) (settled (sizes w f)) k xs)
