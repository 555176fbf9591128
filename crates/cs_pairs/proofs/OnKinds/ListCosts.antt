-- What lists of trees of a kind cost: no list costs less than is said, and one costs no more.
use Rattle.std.proofs.Common.{◌≡◌, ℕ, ◌+◌, ◌<◌, ◌≤◌, ◌⊎◌, [], ◌∷◌, refl, ap, sym, subst, ⊎_elim, arith}
use Rattle.std.proofs.lemmas.Bool.Decides.{nat_tests}
use Rattle.cs_grammar.specs.declared.symbol.Symbol.TheVariants.{Token}
use Rattle.cs_grammar.specs.Grammar.{PlainGrammar}
use Rattle.cs_grammar.specs.Weights.{Measure, number}
use Rattle.cs_grammar.specs.Tree.{Tree, Leaf, Bare, size}
use Rattle.cs_least.specs.declared.cost.cost.Cost.{Cost}
use Rattle.cs_least.specs.Cost.Rank.{capped, rank, IsCapped}
use Rattle.cs_least.proofs.OnCost.Ranks.{rank-cost_of, IsCapped-cost_of}
use Rattle.cs_pairs.specs.declared.kinds.kind.TreeKind.{TreeKind}
use Rattle.cs_pairs.specs.declared.kinds.kind.TreeKind.TheVariants.{Any, Empty, Begins, Ends}
use Rattle.cs_pairs.specs.Kinds.Kinds.{IsOfKind, IsTreeOfKind, AreTreesOfKind, before, behind, IsKind}
use Rattle.cs_pairs.specs.Kinds.ListCost.{lesser, leaf_cost, bare_cost}

-- the parts of a kind
pub IsKind-before : (tokens : ℕ) (k : TreeKind) → IsKind tokens k → IsKind tokens (before k)
IsKind-before tokens Any h = tt
IsKind-before tokens Empty h = tt
IsKind-before tokens (Begins b) h = tt
IsKind-before tokens (Ends a) h = tt

pub IsKind-behind : (tokens : ℕ) (k : TreeKind) → IsKind tokens k → IsKind tokens (behind k)
IsKind-behind tokens Any h = tt
IsKind-behind tokens Empty h = tt
IsKind-behind tokens (Begins b) h = tt
IsKind-behind tokens (Ends a) h = tt

module _ (w : Measure) where
  pub lesser_left : (a b : Cost) → rank w.limit (lesser w.limit a b) ≤ rank w.limit a
  lesser_left a b = grind (arith, nat_tests)

  pub lesser_right : (a b : Cost) → rank w.limit (lesser w.limit a b) ≤ rank w.limit b
  lesser_right a b = grind (arith, nat_tests)

  pub lesser_either : (a b : Cost) → (lesser w.limit a b ≡ a) ⊎ (lesser w.limit a b ≡ b)
  lesser_either a b = grind (arith, nat_tests)

  pub lesser_first : (a b : Cost) → rank w.limit a ≤ rank w.limit b → lesser w.limit a b ≡ a
  lesser_first a b h = grind (arith, nat_tests)

  pub lesser_second : (a b : Cost) → rank w.limit b < rank w.limit a → lesser w.limit a b ≡ b
  lesser_second a b h = grind (arith, nat_tests)

  pub IsCapped-lesser : (a b : Cost) → IsCapped w.limit a → IsCapped w.limit b → IsCapped w.limit (lesser w.limit a b)
  IsCapped-lesser a b ha hb = ⊎_elim (λ e. subst (IsCapped w.limit) (sym e) ha) (λ e. subst (IsCapped w.limit) (sym e) hb) (lesser_either a b)

  -- leaves
  pub leaf_low : (k : TreeKind) (t : ℕ) → IsOfKind k (t ∷ []) → rank w.limit (leaf_cost w k t) ≤ capped w.limit (number w t)
  leaf_low Any t h = omega (arith, rank-cost_of w.limit (number w t))
  leaf_low Empty t h = absurd cc
  leaf_low (Begins b) t h = let e : t ≡ b = (let q = h.1 in cc) in let r = rank-cost_of w.limit (number w t) in grind (arith, nat_tests)
  leaf_low (Ends a) t ([], e) = let e' : t ≡ a = cc in let r = rank-cost_of w.limit (number w t) in grind (arith, nat_tests)
  leaf_low (Ends a) t (x ∷ [], e) = absurd cc
  leaf_low (Ends a) t (x ∷ y ∷ rest, e) = absurd cc

  pub leaf_reached : (g : PlainGrammar) (k : TreeKind) (t : ℕ) → rank w.limit (leaf_cost w k t) ≤ w.limit + 1 → (u : Tree) × IsTreeOfKind g k (Token t) u × (capped w.limit (size w u) ≤ rank w.limit (leaf_cost w k t))
  leaf_reached g Any t h = (Leaf t, (refl, tt), omega (arith, rank-cost_of w.limit (number w t)))
  leaf_reached g Empty t h = absurd (omega arith)
  leaf_reached g (Begins b) t h = (Leaf t, (refl, ([], (let e : t ≡ b = grind (arith, nat_tests) in ap (λ n. n ∷ []) e))), (let r = rank-cost_of w.limit (number w t) in grind (arith, nat_tests)))
  leaf_reached g (Ends a) t h = (Leaf t, (refl, ([], (let e : t ≡ a = grind (arith, nat_tests) in ap (λ n. n ∷ []) e))), (let r = rank-cost_of w.limit (number w t) in grind (arith, nat_tests)))

  pub IsCapped-leaf : (k : TreeKind) (t : ℕ) → IsCapped w.limit (leaf_cost w k t)
  IsCapped-leaf Any t = IsCapped-cost_of w.limit (number w t)
  IsCapped-leaf Empty t = tt
  IsCapped-leaf (Begins b) t = let c = IsCapped-cost_of w.limit (number w t) in grind (arith, nat_tests)
  IsCapped-leaf (Ends a) t = let c = IsCapped-cost_of w.limit (number w t) in grind (arith, nat_tests)

  -- no tree at all
  pub bare_low : (k : TreeKind) → IsOfKind k [] → rank w.limit (bare_cost k) ≤ 0
  bare_low Any h = omega arith
  bare_low Empty h = omega arith
  bare_low (Begins b) h = let e = h.1 in absurd cc
  bare_low (Ends a) ([], e) = absurd cc
  bare_low (Ends a) (x ∷ rest, e) = absurd cc

  pub bare_reached : (g : PlainGrammar) (k : TreeKind) → rank w.limit (bare_cost k) ≤ w.limit + 1 → AreTreesOfKind g k [] Bare
  bare_reached g Any h = (tt, tt)
  bare_reached g Empty h = (tt, refl)
  bare_reached g (Begins b) h = absurd (omega arith)
  bare_reached g (Ends a) h = absurd (omega arith)

  pub IsCapped-bare : (k : TreeKind) → IsCapped w.limit (bare_cost k)
  IsCapped-bare Any = omega arith
  IsCapped-bare Empty = omega arith
  IsCapped-bare (Begins b) = tt
  IsCapped-bare (Ends a) = tt
