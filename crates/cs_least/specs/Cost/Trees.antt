-- The table of what the least trees cost, and the rules at the roots of the chosen ones.
use Rattle.std.specs.Prelude.{◌≡◌, ℕ, ◌-◌, ◌<◌, ◌≤◌, List, length, Option, Some, None, slice_get, slice_index_or, All}
use Rattle.cs_grammar.specs.declared.symbol.Symbol.{Symbol}
use Rattle.cs_grammar.specs.declared.symbol.Symbol.TheVariants.{Token, Nonterminal}
use Rattle.cs_grammar.specs.Grammar.{Production, PlainGrammar, IsRule, IsNumberOf}
use Rattle.cs_grammar.specs.Weights.{Measure, Weighed, Weighs}
use Rattle.cs_grammar.specs.Tree.{Tree, Leaf, Forest, IsTree, AreTrees, size, sizes}
use Rattle.cs_least.specs.declared.cost.cost.Cost.{Cost}
use Rattle.cs_least.specs.declared.cost.cost.Cost.TheVariants.{Least}
use Rattle.cs_least.specs.Cost.Least.{IsCost}
use Rattle.cs_least.specs.Cost.Rank.{rank, IsCapped, cost_of, sum_from, entry}
use Rattle.cs_least.specs.Cost.Holds.{Holds}

-- what the least tree of x costs, and what the least trees of symbols cost together
abbrev pub IsTreeCost : Weighed → Symbol → Cost → Type 0
IsTreeCost v x cost = IsCost v.weights.limit (IsTree v.grammar x) (size v.weights) cost

abbrev pub AreTreesCost : Weighed → List Symbol → Cost → Type 0
AreTreesCost v xs cost = IsCost v.weights.limit (AreTrees v.grammar xs) (sizes v.weights) cost

-- the least tree of x is within the limit
abbrev pub HasLeast : Measure → PlainGrammar → Symbol → Type 0
HasLeast w g x = (n : ℕ) × IsCost w.limit (IsTree g x) (size w) (Least n)

-- some trees of these symbols are within the limit together
abbrev pub HaveSmall : Measure → PlainGrammar → List Symbol → Type 0
HaveSmall w g xs = (f : Forest) × AreTrees g xs f × (sizes w f ≤ w.limit)

-- the kind of a nonterminal's trees
abbrev pub IsTreeOf : PlainGrammar → ℕ → Tree → Type 0
IsTreeOf g n t = IsTree g (Nonterminal n) t

-- what a table says of a symbol; a token's tree is a leaf
abbrev pub cost_in : Measure → List Cost → Symbol → Cost
cost_in w table (Token t) = cost_of w.limit (size w (Leaf t))
cost_in w table (Nonterminal n) = entry table n

-- a sum so far, and trees of these symbols
abbrev pub symbols_cost : Measure → List Cost → Cost → List Symbol → Cost
symbols_cost w table sum xs = sum_from w.limit (cost_in w table) sum xs

-- a node, and children of these symbols
abbrev pub node_cost : Measure → List Cost → List Symbol → Cost
node_cost w table right = symbols_cost w table (cost_of w.limit 1) right

-- the table of a grammar says what the least tree of each nonterminal costs
pub record IsCostTable (w : Measure) (g : PlainGrammar) (table : List Cost) : Type 0 where
  pub weighs : Weighs w g
  pub many : length table ≡ g.nonterminals
  pub each : All (IsCapped w.limit) table
  pub exact : (n : ℕ) → IsCost w.limit (IsTreeOf g n) (size w) (entry table n)

-- while the table is made: each cost that it says is one of a tree
pub record IsSound (w : Measure) (g : PlainGrammar) (table : List Cost) : Type 0 where
  pub many : length table ≡ g.nonterminals
  pub holds : Holds w.limit (IsTreeOf g) (size w) table

-- the rule makes its left side cost no less
abbrev pub IsBelowRule : Measure → List Cost → Production → Type 0
IsBelowRule w table p = rank w.limit (entry table p.left) ≤ rank w.limit (node_cost w table p.right)

-- no rule makes a nonterminal cost less
pub record IsClosed (w : Measure) (g : PlainGrammar) (table : List Cost) : Type 0 where
  pub below : (r : ℕ) (p : Production) → IsRule g r p → IsBelowRule w table p

-- rule r is the lowest of those that cost no more than the table says of their left side
pub record IsFirstRule (w : Measure) (g : PlainGrammar) (table : List Cost) (left r : ℕ) : Type 0 where
  pub rule : Production
  pub number : IsRule g r rule
  pub of_left : rule.left ≡ left
  pub cost : rank w.limit (node_cost w table rule.right) ≤ rank w.limit (entry table left)
  pub earlier : (q : ℕ) → (o : Production) → q < r → IsRule g q o → o.left ≡ left → rank w.limit (entry table left) < rank w.limit (node_cost w table o.right)

-- a rule of this right side costs no more than the table says of its left side, of which no rule is known so far
pub record IsFirstSoFar (w : Measure) (table : List Cost) (firsts : List (Option ℕ)) (left : ℕ) (right : List Symbol) : Type 0 where
  pub unknown : slice_index_or firsts (left - 1) None ≡ None
  pub cost : rank w.limit (node_cost w table right) ≤ rank w.limit (entry table left)

-- the rule at the root of the chosen tree of each nonterminal that has one within the limit
pub record AreFirstRules (w : Measure) (g : PlainGrammar) (table : List Cost) (firsts : List (Option ℕ)) : Type 0 where
  pub many : length firsts ≡ g.nonterminals
  pub each : (n : ℕ) → IsNumberOf g.nonterminals n → rank w.limit (entry table n) ≤ w.limit → (r : ℕ) × (slice_get firsts (n - 1) ≡ Some (Some r)) × IsFirstRule w g table n r
