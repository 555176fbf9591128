-- A chosen list of trees laid out flat: the trees before a place, the one there, and those behind it.
use Rattle.std.specs.Prelude.{◌≡◌, ℕ, zero, suc, ◌≤◌, List, [], ◌∷◌}
use Rattle.cs_grammar.specs.declared.symbol.Symbol.{Symbol}
use Rattle.cs_grammar.specs.Grammar.{PlainGrammar}
use Rattle.cs_grammar.specs.Weights.{Measure, Weighed}
use Rattle.cs_grammar.specs.Tree.{Tree, Forest, Bare, Grown, sizes}
use Rattle.cs_pairs.specs.declared.kinds.kind.TreeKind.{TreeKind}
use Rattle.cs_pairs.specs.Kinds.Kinds.{IsTreeOfKind, AreTreesOfKind, before, behind}
use Rattle.cs_pairs.specs.Kinds.ChosenKind.{IsChosenOfKind, AreChosenOfKind}

-- The tree at the place is of the kind itself, each one before it of `before k`, and those behind it together of `behind k`.
abbrev pub IsOfKindAt : PlainGrammar → TreeKind → List Symbol → Forest → ℕ → Type 0
IsOfKindAt g k [] f place = ⊥
IsOfKindAt g k (x ∷ xs) Bare place = ⊥
IsOfKindAt g k (x ∷ xs) (Grown t f) zero = IsTreeOfKind g k x t × AreTreesOfKind g (behind k) xs f
IsOfKindAt g k (x ∷ xs) (Grown t f) (suc place) = IsTreeOfKind g (before k) x t × IsOfKindAt g k xs f place

-- and each of them is chosen so
abbrev pub IsChosenAt : Measure → PlainGrammar → TreeKind → List Symbol → Forest → ℕ → Type 0
IsChosenAt w g k [] f place = ⊥
IsChosenAt w g k (x ∷ xs) Bare place = ⊥
IsChosenAt w g k (x ∷ xs) (Grown t f) zero = IsChosenOfKind w g k x t × AreChosenOfKind w g (behind k) xs f
IsChosenAt w g k (x ∷ xs) (Grown t f) (suc place) = IsChosenOfKind w g (before k) x t × IsChosenAt w g k xs f place

-- The trees are chosen so at a place, and in no list of these symbols of the same size is the tree of the kind itself at a lower one.
-- Of a kind that begins with a token the trees before the place are empty, and of one that ends with it those behind it.
pub record IsFlat (w : Measure) (g : PlainGrammar) (k : TreeKind) (xs : List Symbol) (f : Forest) : Type 0 where
  pub place : ℕ
  pub chosen : IsChosenAt w g k xs f place
  pub lowest : (other : Forest) (at : ℕ) → IsOfKindAt g k xs other at → sizes w other ≡ sizes w f → place ≤ at

-- each chosen list that has a tree is laid out so
abbrev pub AreFlatWhereChosen : Weighed → TreeKind → Type 0
AreFlatWhereChosen v k =
    (x : Symbol) (xs : List Symbol) (t : Tree) (f : Forest)
    → AreChosenOfKind v.weights v.grammar k (x ∷ xs) (Grown t f) → IsFlat v.weights v.grammar k (x ∷ xs) (Grown t f)
