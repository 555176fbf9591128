-- What a table says of a symbol is what its least tree costs.
use Rattle.std.proofs.Common.{ℕ, ◌+◌, ◌≤◌, List, [], ◌∷◌, refl, arith}
use Rattle.cs_grammar.specs.declared.symbol.Symbol.{Symbol}
use Rattle.cs_grammar.specs.declared.symbol.Symbol.TheVariants.{Token, Nonterminal}
use Rattle.cs_grammar.specs.Grammar.{Production, PlainGrammar, IsRule}
use Rattle.cs_grammar.specs.Weights.{Measure}
use Rattle.cs_grammar.specs.Tree.{Tree, Leaf, Node, Forest, Bare, Grown, IsTree, AreTrees, size, sizes}
use Rattle.cs_least.specs.declared.cost.cost.Cost.{Cost}
use Rattle.cs_least.specs.Cost.Least.{IsCost}
use Rattle.cs_least.specs.Cost.Rank.{capped, rank, IsCapped, cost_of, plus, sum_from, entry}
use Rattle.cs_least.specs.Cost.Holds.{Holds}
use Rattle.cs_least.specs.Cost.Trees.{IsTreeOf, cost_in, IsClosed, IsSound}
use Rattle.cs_least.proofs.OnCost.Ranks.{rank-cost_of, IsCapped-cost_of, plus_at_most, plus_reached, IsCapped-plus}
use Rattle.cs_least.proofs.OnCost.Tables.{IsCapped-entry, exact_entry}

module _ (w : Measure) (g : PlainGrammar) (table : List Cost) (closed : IsClosed w g table) where
  -- no tree of a symbol is smaller than the table says
  mutual
    pub tree_low : (t : Tree) (x : Symbol) → IsTree g x t → rank w.limit (cost_in w table x) ≤ capped w.limit (size w t)
    tree_low (Leaf t) x h = rw h (omega (arith, rank-cost_of w.limit (size w (Leaf t))))
    tree_low (Node r children) x h =
        let below = closed.below r h.0 h.1 in
        let parts = forest_low children h.0.right (cost_of w.limit 1) 1 (omega (arith, rank-cost_of w.limit 1)) h.3 in
        rw h.2 (omega (arith, below, parts))

    forest_low : (f : Forest) (xs : List Symbol) (sum : Cost) (n : ℕ) → rank w.limit sum ≤ capped w.limit n → AreTrees g xs f → rank w.limit (sum_from w.limit (cost_in w table) sum xs) ≤ capped w.limit (n + sizes w f)
    forest_low Bare [] sum n le h = omega arith
    forest_low (Grown t f) (x ∷ xs) sum n le h =
        let first = plus_at_most w.limit sum (cost_in w table x) n (size w t) le (tree_low t x h.0) in
        omega (arith, forest_low f xs (plus w.limit sum (cost_in w table x)) (n + size w t) first h.1)
    forest_low Bare (x ∷ xs) sum n le h = absurd h
    forest_low (Grown t f) [] sum n le h = absurd h

-- what a list of symbols costs after a sum so far is reached by trees of them
pub record Forested (w : Measure) (g : PlainGrammar) (told : Symbol → Cost) (sum : Cost) (xs : List Symbol) : Type 0 where
  pub start : rank w.limit sum ≤ w.limit + 1
  pub trees : Forest
  pub are : AreTrees g xs trees
  pub cost : capped w.limit (rank w.limit sum + sizes w trees) ≤ rank w.limit (sum_from w.limit told sum xs)

-- of each symbol a cost is told that some tree of it reaches
pub record IsReached (w : Measure) (g : PlainGrammar) (told : Symbol → Cost) : Type 0 where
  pub each : (x : Symbol) → IsCapped w.limit (told x)
  pub reached : (x : Symbol) → rank w.limit (told x) ≤ w.limit + 1 → (t : Tree) × IsTree g x t × (capped w.limit (size w t) ≤ rank w.limit (told x))

module _ (w : Measure) (g : PlainGrammar) (told : Symbol → Cost) (is_reached : IsReached w g told) where
  pub forested : (xs : List Symbol) (sum : Cost) → IsCapped w.limit sum → rank w.limit (sum_from w.limit told sum xs) ≤ w.limit + 1 → Forested w g told sum xs
  forested [] sum is_capped h = record { start = h; trees = Bare; are = tt; cost = omega arith }
  forested (x ∷ xs) sum is_capped h =
      let rest = forested xs (plus w.limit sum (told x)) (IsCapped-plus w.limit sum (told x) is_capped (is_reached.each x)) h in
      let parts = plus_reached w.limit sum (told x) is_capped (is_reached.each x) rest.start in
      let t = is_reached.reached x parts.second in
      record { start = parts.first; trees = Grown t.0 rest.trees; are = (t.1, rest.are); cost = omega (arith, rest.cost, parts.sum, t.2) }

  -- a rule whose right side has a cost has a tree that costs no more
  pub node_reached : (r : ℕ) (p : Production) → IsRule g r p → rank w.limit (sum_from w.limit told (cost_of w.limit 1) p.right) ≤ w.limit + 1 → (f : Forest) × AreTrees g p.right f × (capped w.limit (1 + sizes w f) ≤ rank w.limit (sum_from w.limit told (cost_of w.limit 1) p.right))
  node_reached r p rule h =
      let f = forested p.right (cost_of w.limit 1) (IsCapped-cost_of w.limit 1) h in
      (f.trees, f.are, omega (arith, f.cost, rank-cost_of w.limit 1))

-- where no tree of a symbol is smaller than what is told of it, no trees of symbols are smaller than their sum
module _ (w : Measure) (g : PlainGrammar) (told : Symbol → Cost) (low : (x : Symbol) (t : Tree) → IsTree g x t → rank w.limit (told x) ≤ capped w.limit (size w t)) where
  pub forest_at_most : (f : Forest) (xs : List Symbol) (sum : Cost) (n : ℕ) → rank w.limit sum ≤ capped w.limit n → AreTrees g xs f → rank w.limit (sum_from w.limit told sum xs) ≤ capped w.limit (n + sizes w f)
  forest_at_most Bare [] sum n le h = omega arith
  forest_at_most (Grown t f) (x ∷ xs) sum n le h =
      let first = plus_at_most w.limit sum (told x) n (size w t) le (low x t h.0) in
      omega (arith, forest_at_most f xs (plus w.limit sum (told x)) (n + size w t) first h.1)
  forest_at_most Bare (x ∷ xs) sum n le h = absurd h
  forest_at_most (Grown t f) [] sum n le h = absurd h

-- a table that holds of nonterminals tells of each symbol what some tree reaches
pub IsReached-holds : (w : Measure) (g : PlainGrammar) (table : List Cost) → Holds w.limit (IsTreeOf g) (size w) table → IsReached w g (cost_in w table)
IsReached-holds w g table holds = record { each = λ x. each x; reached = λ x. reached x }
  where
    each : (x : Symbol) → IsCapped w.limit (cost_in w table x)
    each (Token t) = IsCapped-cost_of w.limit (size w (Leaf t))
    each (Nonterminal n) = IsCapped-entry w.limit table n holds.each

    reached : (x : Symbol) → rank w.limit (cost_in w table x) ≤ w.limit + 1 → (t : Tree) × IsTree g x t × (capped w.limit (size w t) ≤ rank w.limit (cost_in w table x))
    reached (Token t) h = (Leaf t, refl, omega (arith, rank-cost_of w.limit (size w (Leaf t))))
    reached (Nonterminal n) h = holds.reached n h

-- the table in which no step is left
pub exact_table : (w : Measure) (g : PlainGrammar) (table : List Cost) → IsSound w g table → IsClosed w g table → (n : ℕ) → IsCost w.limit (IsTreeOf g n) (size w) (entry table n)
exact_table w g table sound closed n =
    exact_entry w.limit (IsTreeOf g) (size w) table sound.holds (record { low = λ m t h. tree_low w g table closed t (Nonterminal m) h }) n
