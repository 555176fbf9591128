-- A chosen tree of a kind is a least tree of the kind, and there is at most one.
use Rattle.std.proofs.Common.{◌≡◌, ℕ, ◌+◌, ◌≤◌, List, [], ◌∷◌, refl, sym, ap, subst, ⊎_elim, inl, arith}
use Rattle.cs_grammar.specs.declared.symbol.Symbol.{Symbol}
use Rattle.cs_grammar.specs.declared.symbol.Symbol.TheVariants.{Token}
use Rattle.cs_grammar.specs.Grammar.{Production, PlainGrammar}
use Rattle.cs_grammar.specs.Weights.{Measure}
use Rattle.cs_grammar.specs.Tree.{IsTree, Tree, Leaf, Node, Forest, Bare, Grown, size, sizes, yield, yields}
use Rattle.cs_grammar.proofs.OneTree.{one_rule}
use Rattle.cs_least.specs.Cost.Chosen.{IsChosen, AreChosen}
use Rattle.cs_least.proofs.OnCost.ChosenTrees.{forest_least}
use Rattle.cs_pairs.specs.declared.kinds.kind.TreeKind.{TreeKind}
use Rattle.cs_pairs.specs.declared.kinds.kind.TreeKind.TheVariants.{Any, Empty, Begins, Ends}
use Rattle.cs_pairs.specs.Kinds.Kinds.{IsOfKind, IsTreeOfKind, AreTreesOfKind, before, behind}
use Rattle.cs_pairs.specs.Kinds.Ways.{AreHere, AreLater, joint_size}
use Rattle.cs_pairs.specs.Kinds.ChosenKind.{IsChosenOfKind, AreChosenOfKind}
use Rattle.cs_pairs.proofs.OnKinds.Joined.{joined_here, joined_later}
use Rattle.cs_pairs.proofs.OnKinds.Sweeping.{one_way}

module _ (w : Measure) (g : PlainGrammar) where
  mutual
    pub IsTree-of_kind : (t : Tree) (k : TreeKind) (x : Symbol) → IsChosenOfKind w g k x t → IsTreeOfKind g k x t
    IsTree-of_kind (Leaf s) k x h = h
    IsTree-of_kind (Node r f) k x h = let o = AreTrees-of_kind f k h.0.right h.4 in ((h.0, h.1, h.2, o.0), o.1)

    pub AreTrees-of_kind : (f : Forest) (k : TreeKind) (xs : List Symbol) → AreChosenOfKind w g k xs f → AreTreesOfKind g k xs f
    AreTrees-of_kind Bare k [] h = (tt, h)
    AreTrees-of_kind Bare k (x ∷ xs) h = absurd h
    AreTrees-of_kind (Grown t f) k [] h = absurd h
    AreTrees-of_kind (Grown t f) k (x ∷ xs) h =
        ⊎_elim
        (λ o.
        let first = IsTree-of_kind t k x o.0 in
        let others = AreTrees-of_kind f (behind k) xs o.1 in
        ((first.0, others.0), joined_here k (yield t) (yields f) first.1 others.1))
        (λ o.
        let first = IsTree-of_kind t (before k) x o.0 in
        let others = AreTrees-of_kind f k xs o.1 in
        ((first.0, others.0), joined_later k (yield t) (yields f) first.1 others.1))
        h

  leaf_least : (s : ℕ) (u : Tree) → IsTree g (Token s) u → size w (Leaf s) ≤ size w u
  leaf_least s (Leaf r) h = let same : s ≡ r = cc in omega (arith, ap (λ k. size w (Leaf k)) same)
  leaf_least s (Node q f) h = let e = h.2 in absurd cc

  -- it is of least size
  pub of_kind_least : (k : TreeKind) (x : Symbol) (t u : Tree) → IsTreeOfKind g k x u → IsChosenOfKind w g k x t → size w t ≤ size w u
  of_kind_least k x (Leaf s) u hu ht = leaf_least s u (subst (λ y. IsTree g y u) ht.0 hu.0)
  of_kind_least k x (Node r f) u hu ht = ht.3.least u hu

  pub here_least : (k : TreeKind) (x : Symbol) (xs : List Symbol) (t : Tree) (f : Forest) → IsChosenOfKind w g k x t → ((h : Forest) → AreTreesOfKind g (behind k) xs h → sizes w f ≤ sizes w h) → (p : Tree × Forest) → AreHere g k x xs p → size w t + sizes w f ≤ joint_size w p
  here_least k x xs t f ht least p h = omega (arith, of_kind_least k x t p.0 h.0 ht, least p.1 h.1)

  pub later_least : (k : TreeKind) (x : Symbol) (xs : List Symbol) (t : Tree) (f : Forest) → IsChosenOfKind w g (before k) x t → ((h : Forest) → AreTreesOfKind g k xs h → sizes w f ≤ sizes w h) → (p : Tree × Forest) → AreLater g k x xs p → size w t + sizes w f ≤ joint_size w p
  later_least k x xs t f ht least p h = omega (arith, of_kind_least (before k) x t p.0 h.0 ht, least p.1 h.1)

  pub list_least : (f h : Forest) (k : TreeKind) (xs : List Symbol) → AreTreesOfKind g k xs h → AreChosenOfKind w g k xs f → sizes w f ≤ sizes w h
  list_least Bare h k [] hh hf = omega arith
  list_least Bare h k (x ∷ xs) hh hf = absurd hf
  list_least (Grown t f) h k [] hh hf = absurd hf
  list_least (Grown t f) h k (x ∷ xs) hh hf =
      ⊎_elim
      (λ o. ⊎_elim
      (λ p. omega (arith, here_least k x xs t f o.0 (λ l is. list_least f l (behind k) xs is o.1) p.0 p.1, p.2))
      (λ p. omega (arith, o.2 p.0 p.1, p.2))
      (one_way w g k x xs h hh))
      (λ o. ⊎_elim
      (λ p. omega (arith, o.2 p.0 p.1, p.2))
      (λ p. omega (arith, later_least k x xs t f o.0 (λ l is. list_least f l k xs is o.1) p.0 p.1, p.2))
      (one_way w g k x xs h hh))
      hf

  -- a kind and a symbol have one chosen tree
  mutual
    pub one_of_kind : (t u : Tree) (k : TreeKind) (x : Symbol) → IsChosenOfKind w g k x t → IsChosenOfKind w g k x u → t ≡ u
    one_of_kind (Leaf s) (Leaf s') k x ht hu = let same : s ≡ s' = (let d = ht.0 in let e = hu.0 in cc) in ap Leaf same
    one_of_kind (Leaf s) (Node q h) k x ht hu = let d = ht.0 in let e = hu.2 in absurd cc
    one_of_kind (Node r f) (Leaf s) k x ht hu = let d = ht.2 in let e = hu.0 in absurd cc
    one_of_kind (Node r f) (Node q h) k x ht hu =
        let t_is = IsTree-of_kind (Node r f) k x ht in
        let u_is = IsTree-of_kind (Node q h) k x hu in
        let below = ht.3.least (Node q h) u_is in
        let above = hu.3.least (Node r f) t_is in
        let lower = ht.3.lowest q h u_is (omega (arith, below, above)) in
        let higher = hu.3.lowest r f t_is (omega (arith, below, above)) in
        let rule : r ≡ q = omega (arith, lower, higher) in
        let same = one_rule g r q ht.0 hu.0 rule ht.1 hu.1 in
        let there = subst (λ (p : Production). AreChosenOfKind w g k p.right h) (sym same) hu.4 in
        let children = all_of_kind f h k ht.0.right ht.4 there in
        cc

    pub all_of_kind : (f h : Forest) (k : TreeKind) (xs : List Symbol) → AreChosenOfKind w g k xs f → AreChosenOfKind w g k xs h → f ≡ h
    all_of_kind Bare Bare k xs cf ch = refl
    all_of_kind Bare (Grown u h) k [] cf ch = absurd ch
    all_of_kind Bare (Grown u h) k (x ∷ xs) cf ch = absurd cf
    all_of_kind (Grown t f) Bare k [] cf ch = absurd cf
    all_of_kind (Grown t f) Bare k (x ∷ xs) cf ch = absurd ch
    all_of_kind (Grown t f) (Grown u h) k [] cf ch = absurd cf
    all_of_kind (Grown t f) (Grown u h) k (x ∷ xs) cf ch =
        ⊎_elim
        (λ v. ⊎_elim
        (λ o.
        let first = one_of_kind t u k x v.0 o.0 in
        let others = all_of_kind f h (behind k) xs v.1 o.1 in
        cc)
        (λ o.
        let here : AreHere g k x xs (t, f) = (IsTree-of_kind t k x v.0, AreTrees-of_kind f (behind k) xs v.1) in
        let later : AreLater g k x xs (u, h) = (IsTree-of_kind u (before k) x o.0, AreTrees-of_kind h k xs o.1) in
        absurd (omega (arith, v.2 (u, h) later, o.2 (t, f) here)))
        ch)
        (λ v. ⊎_elim
        (λ o.
        let here : AreHere g k x xs (u, h) = (IsTree-of_kind u k x o.0, AreTrees-of_kind h (behind k) xs o.1) in
        let later : AreLater g k x xs (t, f) = (IsTree-of_kind t (before k) x v.0, AreTrees-of_kind f k xs v.1) in
        absurd (omega (arith, o.2 (t, f) later, v.2 (u, h) here)))
        (λ o.
        let first = one_of_kind t u (before k) x v.0 o.0 in
        let others = all_of_kind f h k xs v.1 o.1 in
        cc)
        ch)
        cf

  -- a chosen tree of any yield is the chosen tree of the symbol
  mutual
    pub any_chosen : (t : Tree) (x : Symbol) → IsChosenOfKind w g Any x t → IsChosen w g x t
    any_chosen (Leaf s) x h = h.0
    any_chosen (Node r f) x h =
        let first = h.3 in (
          h.0,
          h.1,
          h.2,
          record { least = λ u is. first.least u (is, tt); lowest = λ q l is e. first.lowest q l (is, tt) e },
          any_all_chosen f h.0.right h.4,
        )

    pub any_all_chosen : (f : Forest) (xs : List Symbol) → AreChosenOfKind w g Any xs f → AreChosen w g xs f
    any_all_chosen Bare [] h = tt
    any_all_chosen Bare (x ∷ xs) h = absurd h
    any_all_chosen (Grown t f) [] h = absurd h
    any_all_chosen (Grown t f) (x ∷ xs) h =
        ⊎_elim (λ o. (any_chosen t x o.0, any_all_chosen f xs o.1)) (λ o. (any_chosen t x o.0, any_all_chosen f xs o.1)) h

  mutual
    pub chosen_any : (t : Tree) (x : Symbol) → IsChosen w g x t → IsChosenOfKind w g Any x t
    chosen_any (Leaf s) x h = (h, tt)
    chosen_any (Node r f) x h =
        let first = h.3 in (
          h.0,
          h.1,
          h.2,
          record { least = λ u is. first.least u is.0; lowest = λ q l is e. first.lowest q l is.0 e },
          all_chosen_any f h.0.right h.4,
        )

    pub all_chosen_any : (f : Forest) (xs : List Symbol) → AreChosen w g xs f → AreChosenOfKind w g Any xs f
    all_chosen_any Bare [] h = tt
    all_chosen_any Bare (x ∷ xs) h = absurd h
    all_chosen_any (Grown t f) [] h = absurd h
    all_chosen_any (Grown t f) (x ∷ xs) h =
        inl (chosen_any t x h.0, all_chosen_any f xs h.1, λ p is. forest_least w g (Grown t f) (Grown p.0 p.1) (x ∷ xs) h (is.0.0, is.1.0))

  -- a chosen tree is a chosen list of one
  pub list_of_one : (t : Tree) (k : TreeKind) (x : Symbol) → IsChosenOfKind w g k x t → AreChosenOfKind w g k (x ∷ []) (Grown t Bare)
  list_of_one t k x h = inl (h, nothing_behind k, λ p is. least p is)
    where
      nothing_behind : (j : TreeKind) → IsOfKind (behind j) []
      nothing_behind Any = tt
      nothing_behind Empty = refl
      nothing_behind (Begins b) = tt
      nothing_behind (Ends a) = refl

      same : (j : TreeKind) → IsOfKind j [] → before j ≡ j
      same Any h = refl
      same Empty h = refl
      same (Begins b) h = let e = h.1 in absurd cc
      same (Ends a) ([], e) = absurd cc
      same (Ends a) (y ∷ rest, e) = absurd cc

      least : (p : Tree × Forest) → AreLater g k x [] p → size w t + 0 ≤ joint_size w p
      least (u, Bare) is =
          let first = subst (λ j. IsTreeOfKind g j x u) (same k is.1.1) is.0 in
          omega (arith, of_kind_least k x t u first h)
      least (u, Grown v f) is = absurd is.1.0
