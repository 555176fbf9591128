-- A chosen list of trees has its tree of the kind itself at the lowest place.
use Rattle.std.proofs.Common.{◌≡◌, ℕ, zero, suc, ◌+◌, ◌≤◌, List, [], ◌∷◌, refl, subst, inl, inr, arith}
use Rattle.cs_grammar.specs.declared.symbol.Symbol.{Symbol}
use Rattle.cs_grammar.specs.Grammar.{PlainGrammar}
use Rattle.cs_grammar.specs.Weights.{Measure}
use Rattle.cs_grammar.specs.Tree.{Tree, Forest, Bare, Grown, size, sizes, yield, yields}
use Rattle.cs_pairs.specs.declared.kinds.kind.TreeKind.{TreeKind}
use Rattle.cs_pairs.specs.declared.kinds.kind.TreeKind.TheVariants.{Any, Empty, Begins, Ends}
use Rattle.cs_pairs.specs.Kinds.Kinds.{IsOfKind, IsTreeOfKind, AreTreesOfKind, before, behind}
use Rattle.cs_pairs.specs.Kinds.Ways.{AreHere}
use Rattle.cs_pairs.specs.Kinds.ChosenKind.{IsChosenOfKind, AreChosenOfKind, NoneHere}
use Rattle.cs_pairs.specs.Kinds.Flat.{IsOfKindAt, IsFlat}
use Rattle.cs_pairs.proofs.OnKinds.Joined.{joined_here, joined_later}
use Rattle.cs_pairs.proofs.OnKinds.ChosenKinds.{IsTree-of_kind, of_kind_least, list_least}

nothing_behind : (k : TreeKind) → IsOfKind (behind k) []
nothing_behind Any = tt
nothing_behind Empty = refl
nothing_behind (Begins b) = tt
nothing_behind (Ends a) = refl

same_before : (k : TreeKind) → IsOfKind k [] → before k ≡ k
same_before Any h = refl
same_before Empty h = refl
same_before (Begins b) h = let e = h.1 in absurd cc
same_before (Ends a) ([], e) = absurd cc
same_before (Ends a) (y ∷ rest, e) = absurd cc

module _ (w : Measure) (g : PlainGrammar) where
  -- trees that are of the kind at a place are of it together
  at_of_kind : (f : Forest) (k : TreeKind) (xs : List Symbol) (place : ℕ) → IsOfKindAt g k xs f place → AreTreesOfKind g k xs f
  at_of_kind f k [] place is = absurd is
  at_of_kind Bare k (x ∷ xs) place is = absurd is
  at_of_kind (Grown t f) k (x ∷ xs) zero is = ((is.0.0, is.1.0), joined_here k (yield t) (yields f) is.0.1 is.1.1)
  at_of_kind (Grown t f) k (x ∷ xs) (suc place) is =
      let others = at_of_kind f k xs place is.1 in
      ((is.0.0, others.0), joined_later k (yield t) (yields f) is.0.1 others.1)

  -- a tree alone that is chosen behind its place would be chosen at it
  none_alone : (t : Tree) (k : TreeKind) (x : Symbol) → IsChosenOfKind w g (before k) x t → IsOfKind k [] → NoneHere w g k x [] (size w t + 0) → ⊥
  none_alone t k x chosen empty none =
      let first : IsTreeOfKind g k x t = subst (λ (j : TreeKind). IsTreeOfKind g j x t) (same_before k empty) (IsTree-of_kind w g t (before k) x chosen) in
      let here : AreHere g k x [] (t, Bare) = (first, (tt, nothing_behind k)) in
      let less = none (t, Bare) here in
      omega (arith, less)

  -- a tree of `before k` in front of a list that is laid out flat
  more_flat : (t u : Tree) (f : Forest) (k : TreeKind) (x y : Symbol) (ys : List Symbol) → IsChosenOfKind w g (before k) x t → AreChosenOfKind w g k (y ∷ ys) (Grown u f)
      → NoneHere w g k x (y ∷ ys) (size w t + (size w u + sizes w f)) → IsFlat w g k (y ∷ ys) (Grown u f) → IsFlat w g k (x ∷ y ∷ ys) (Grown t (Grown u f))
  more_flat t u f k x y ys chosen others none flat = record { place = suc flat.place; chosen = (chosen, flat.chosen); lowest = lowest }
    where
      lowest : (other : Forest) (at : ℕ) → IsOfKindAt g k (x ∷ y ∷ ys) other at → sizes w other ≡ size w t + (size w u + sizes w f) → suc flat.place ≤ at
      lowest Bare at is e = absurd is
      lowest (Grown a b) zero is e = absurd (let less = none (a, b) is in omega (arith, less, e))
      lowest (Grown a b) (suc at) is e =
          let first : size w t ≤ size w a = of_kind_least w g (before k) x t a is.0 chosen in
          let rest : size w u + sizes w f ≤ sizes w b = list_least w g (Grown u f) b k (y ∷ ys) (at_of_kind b k (y ∷ ys) at is.1) others in
          let lower : flat.place ≤ at = flat.lowest b at is.1 (omega (arith, first, rest, e)) in
          omega (arith, lower)

  pub flat_of_kind : (f : Forest) (xs : List Symbol) (t : Tree) (k : TreeKind) (x : Symbol) → AreChosenOfKind w g k (x ∷ xs) (Grown t f) → IsFlat w g k (x ∷ xs) (Grown t f)
  flat_of_kind f xs t k x (inl o) = record { place = 0; chosen = (o.0, o.1); lowest = λ other at is e. omega arith }
  flat_of_kind Bare [] t k x (inr o) = absurd (none_alone t k x o.0 o.1 o.2)
  flat_of_kind Bare (y ∷ ys) t k x (inr o) = absurd o.1
  flat_of_kind (Grown u f) [] t k x (inr o) = absurd o.1
  flat_of_kind (Grown u f) (y ∷ ys) t k x (inr o) = more_flat t u f k x y ys o.0 o.1 o.2 (flat_of_kind f ys u k y o.1)
