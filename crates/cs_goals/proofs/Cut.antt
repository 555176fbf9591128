-- Trees of some symbols, cut at one of them.
use Rattle.std.proofs.Common.{◌≡◌, ℕ, zero, suc, ◌+◌, List, [], ◌∷◌, ◌++◌, Some, length, refl, ap, subst, arith}
use Rattle.std.specs.Prelude.{slice_get}
use Rattle.cs_grammar.specs.declared.symbol.Symbol.{Symbol}
use Rattle.cs_grammar.specs.Grammar.{PlainGrammar}
use Rattle.cs_grammar.specs.Weights.{Measure}
use Rattle.cs_grammar.specs.Tree.{Tree, Forest, Bare, Grown, IsTree, AreTrees, size, sizes}
use Rattle.cs_goals.specs.Meets.{trees}

-- trees of some symbols, cut at one of them
pub record Cut (w : Measure) (g : PlainGrammar) (xs : List Symbol) (k : ℕ) (t : Tree) (n : ℕ) : Type 0 where
  pub before : List Symbol
  pub behind : List Symbol
  pub here : Symbol
  pub left : Forest
  pub right : Forest
  pub symbols : xs ≡ before ++ here ∷ behind
  pub at : length before ≡ k
  pub left_trees : AreTrees g before left
  pub is_tree : IsTree g here t
  pub right_trees : AreTrees g behind right
  pub measure : n ≡ sizes w left + size w t + sizes w right

pub cut_at : (w : Measure) (g : PlainGrammar) (f : Forest) (xs : List Symbol) (k : ℕ) (t : Tree) → AreTrees g xs f → slice_get (trees f) k ≡ Some t → Cut w g xs k t (sizes w f)
cut_at w g Bare xs k t h at = absurd cc
cut_at w g (Grown u f) [] k t h at = absurd h
cut_at w g (Grown u f) (x ∷ xs) zero t h at =
    let same : u ≡ t = cc in
    record { before = []; behind = xs; here = x; left = Bare; right = f; symbols = refl; at = refl; left_trees = tt; is_tree = subst (IsTree g x) same h.0; right_trees = h.1; measure = omega (arith, ap (size w) same) }
cut_at w g (Grown u f) (x ∷ xs) (suc k) t h at =
    let rest = cut_at w g f xs k t h.1 at in
    record {
      before = x ∷ rest.before;
      behind = rest.behind;
      here = rest.here;
      left = Grown u rest.left;
      right = rest.right;
      symbols = ap (λ (l : List Symbol). x ∷ l) rest.symbols;
      at = omega (arith, rest.at);
      left_trees = (h.0, rest.left_trees);
      is_tree = rest.is_tree;
      right_trees = rest.right_trees;
      measure = omega (arith, rest.measure);
    }
