-- One symbol alone: of its trees that are of a kind each is of the kind itself.
use Rattle.std.proofs.Common.{◌≡◌, ◌≤◌, List, [], ◌∷◌, length, get_or, refl, sym, subst, ⊎_elim, append-nil, arith}
use Rattle.cs_grammar.specs.declared.symbol.Symbol.{Symbol}
use Rattle.cs_grammar.specs.Grammar.{PlainGrammar}
use Rattle.cs_grammar.specs.Weights.{Measure, Weighed}
use Rattle.cs_grammar.specs.Tree.{Tree, Forest, Bare, Grown, size, sizes, yield}
use Rattle.cs_least.specs.declared.cost.cost.Cost.{Cost}
use Rattle.cs_least.proofs.OnCost.Ranks.{IsCost-same}
use Rattle.cs_pairs.specs.declared.kinds.kind.TreeKind.{TreeKind}
use Rattle.cs_pairs.specs.Kinds.Kinds.{IsOfKind, IsTreeOfKind, AreTreesOfKind, behind}
use Rattle.cs_pairs.specs.Kinds.KindCost.{IsKindCost, AreKindCost}
use Rattle.cs_pairs.specs.Kinds.ChosenKind.{IsChosenOfKind, AreChosenOfKind}
use Rattle.cs_pairs.specs.Kinds.Parts.{parts_from, AreChosenParts}
use Rattle.cs_pairs.specs.Kinds.Beside.{IsPlacedFrom}
use Rattle.cs_pairs.proofs.OnKinds.Placing.{at_own}
use Rattle.cs_pairs.proofs.OnKinds.Dear.{bare_kind}

pub only : (xs : List Symbol) (d : Symbol) → length xs ≡ 1 → xs ≡ get_or xs 0 d ∷ []
only [] d one = absurd cc
only (x ∷ []) d one = refl
only (x ∷ y ∷ xs) d one = absurd (omega (arith, one))

module _ (w : Measure) (g : PlainGrammar) (k : TreeKind) (x : Symbol) where
  from_tree : (t : Tree) → IsTreeOfKind g k x t → (f : Forest) × AreTreesOfKind g k (x ∷ []) f × (sizes w f ≤ size w t)
  from_tree t h = (Grown t Bare, ((h.0, tt), subst (IsOfKind k) (sym (append-nil (yield t))) h.1), omega arith)

  to_tree : (f : Forest) → AreTreesOfKind g k (x ∷ []) f → (t : Tree) × IsTreeOfKind g k x t × (size w t ≤ sizes w f)
  to_tree Bare h = absurd h.0
  to_tree (Grown t Bare) h = (t, (h.0.0, subst (IsOfKind k) (append-nil (yield t)) h.1), omega arith)
  to_tree (Grown t (Grown u f)) h = absurd h.0.1

  own_place : (f : Forest) → AreChosenOfKind w g k (x ∷ []) f → AreChosenParts w g (parts_from k 0 0 (x ∷ [])) f
  own_place Bare h = absurd h
  own_place (Grown t Bare) h =
      ⊎_elim
      (λ v. (subst (λ j. IsChosenOfKind w g j x t) (sym (at_own k 0)) v.0, tt))
      (λ v. (subst (λ j. IsChosenOfKind w g j x t) (sym (at_own k 0)) (subst (λ j. IsChosenOfKind w g j x t) (bare_kind k v.1) v.0), tt))
      h
  own_place (Grown t (Grown u f)) h = absurd (⊎_elim (λ v. v.1) (λ v. v.1) h)

pub alone : (v : Weighed) (k : TreeKind) (x : Symbol) (own rest : Cost) → IsKindCost v k x own → IsKindCost v (behind k) x rest → IsPlacedFrom v k 0 (x ∷ []) (record { whole = own; rest = rest; place = 0 })
alone v k x own rest is_own is_rest = record {
  is_whole = sums k own is_own;
  is_rest = sums (behind k) rest is_rest;
  within = omega arith;
  is_place = λ f chosen small. own_place v.weights v.grammar k x f chosen;
}
  where
    sums : (j : TreeKind) (cost : Cost) → IsKindCost v j x cost → AreKindCost v j (x ∷ []) cost
    sums j cost is = IsCost-same v.weights.limit (IsTreeOfKind v.grammar j x) (AreTreesOfKind v.grammar j (x ∷ [])) (size v.weights) (sizes v.weights) cost (from_tree v.weights v.grammar j x) (to_tree v.weights v.grammar j x) is
