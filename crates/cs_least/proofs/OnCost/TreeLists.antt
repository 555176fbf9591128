-- What lists of trees cost, by what their parts cost.
use Rattle.std.proofs.Common.{◌+◌, ◌≤◌, List, [], ◌∷◌, ◌++◌, refl, arith}
use Rattle.cs_grammar.specs.declared.symbol.Symbol.{Symbol}
use Rattle.cs_grammar.specs.Grammar.{PlainGrammar}
use Rattle.cs_grammar.specs.Weights.{Measure}
use Rattle.cs_grammar.specs.Context.{join}
use Rattle.cs_grammar.specs.Tree.{Tree, Forest, Bare, Grown, IsTree, AreTrees, size, sizes}
use Rattle.cs_grammar.proofs.Forests.{AreTrees-join, sizes-join}
use Rattle.cs_least.specs.declared.cost.cost.Cost.{Cost}
use Rattle.cs_least.specs.declared.cost.cost.Cost.TheVariants.{Least}
use Rattle.cs_least.specs.Cost.Least.{IsCost}
use Rattle.cs_least.specs.Cost.Rank.{plus}
use Rattle.cs_least.proofs.OnCost.Ranks.{IsCost-plus, IsCost-same}

module _ (w : Measure) (g : PlainGrammar) where
  -- no tree at all
  pub trees_none : IsCost w.limit (AreTrees g []) (sizes w) (Least 0)
  trees_none = (omega arith, record { reached = (Bare, tt, refl); least = λ f h. omega arith })

  -- one tree
  pub trees_one : (x : Symbol) (a : Cost) → IsCost w.limit (IsTree g x) (size w) a → IsCost w.limit (AreTrees g (x ∷ [])) (sizes w) a
  trees_one x a h =
      IsCost-same w.limit (IsTree g x) (AreTrees g (x ∷ [])) (size w) (sizes w) a
      (λ t is. (Grown t Bare, (is, tt), omega arith))
      (λ f are. alone f are)
      h
    where
      alone : (f : Forest) → AreTrees g (x ∷ []) f → (t : Tree) × IsTree g x t × (size w t ≤ sizes w f)
      alone Bare are = absurd are
      alone (Grown t f) are = (t, are.0, omega arith)

  -- the trees of two lists of symbols
  split : (xs ys : List Symbol) (f : Forest) → AreTrees g (xs ++ ys) f → (p : Forest × Forest) × (AreTrees g xs p.0 × AreTrees g ys p.1) × (sizes w p.0 + sizes w p.1 ≤ sizes w f)
  split [] ys f h = ((Bare, f), (tt, h), omega arith)
  split (x ∷ xs) ys Bare h = absurd h
  split (x ∷ xs) ys (Grown t f) h = let v = split xs ys f h.1 in ((Grown t v.0.0, v.0.1), ((h.0, v.1.0), v.1.1), omega (arith, v.2))

  pub trees_join : (xs ys : List Symbol) (a b : Cost) → IsCost w.limit (AreTrees g xs) (sizes w) a → IsCost w.limit (AreTrees g ys) (sizes w) b → IsCost w.limit (AreTrees g (xs ++ ys)) (sizes w) (plus w.limit a b)
  trees_join xs ys a b ha hb =
      IsCost-same w.limit (λ (p : Forest × Forest). AreTrees g xs p.0 × AreTrees g ys p.1) (AreTrees g (xs ++ ys)) (λ (p : Forest × Forest). sizes w p.0 + sizes w p.1) (sizes w) (plus w.limit a b)
      (λ p h. (join p.0 p.1, AreTrees-join g p.0 p.1 xs ys h.0 h.1, omega (arith, sizes-join w p.0 p.1)))
      (λ f h. split xs ys f h)
      (IsCost-plus w.limit (AreTrees g xs) (AreTrees g ys) (sizes w) (sizes w) a b ha hb)
