-- The worklist by which the costs of trees are found: nonterminals are settled in the order of their least sizes.
use Rattle.std.specs.Prelude.{◌≡◌, ◌⊎◌, ℕ, ◌+◌, ◌<◌, ◌≤◌, List, [], ◌∷◌, Some, length, slice_get, slice_index, All, Contains}
use Rattle.std.specs.List.Sorted.{IsPermutation}
use Rattle.std.specs.BinaryHeap.{IsHeap}
use Rattle.std.specs.Ordering.{nat_cmp, ordering_then}
use Rattle.std.specs.declared.cmp.Ordering.{Ordering}
use Rattle.std.specs.declared.cmp.Reverse.{Reverse}
use Rattle.cs_grammar.specs.declared.symbol.Symbol.{Symbol}
use Rattle.cs_grammar.specs.declared.symbol.Symbol.TheVariants.{Token, Nonterminal}
use Rattle.cs_grammar.specs.Grammar.{Production, PlainGrammar, IsNumberOf}
use Rattle.cs_grammar.specs.Weights.{Measure}
use Rattle.cs_grammar.specs.Tree.{Tree, size}
use Rattle.cs_least.specs.declared.cost.cost.Cost.{Cost}
use Rattle.cs_least.specs.declared.cost.cost.Cost.TheVariants.{Never, Large, Least}
use Rattle.cs_least.specs.Cost.Rank.{capped, rank, entry}
use Rattle.cs_least.specs.Cost.Users.{occurs}
use Rattle.cs_least.specs.Cost.Trees.{IsTreeOf, node_cost, IsSound, IsBelowRule}

-- 1 where nothing is settled, else 0
abbrev pub is_open : Cost → ℕ
is_open Never = 1
is_open Large = 0
is_open (Least n) = 0

-- how many of these symbols are nonterminals that aren't settled
abbrev pub open_in : List Cost → List Symbol → ℕ
open_in table [] = 0
open_in table (Token t ∷ xs) = open_in table xs
open_in table (Nonterminal n ∷ xs) = is_open (entry table n) + open_in table xs

-- how many of these symbols are nonterminals
abbrev pub nonterminals_in : List Symbol → ℕ
nonterminals_in [] = 0
nonterminals_in (Token t ∷ xs) = nonterminals_in xs
nonterminals_in (Nonterminal n ∷ xs) = 1 + nonterminals_in xs

-- the counts of each rule
pub record AreCounts (g : PlainGrammar) (counts : List ℕ) : Type 0 where
  pub many : length counts ≡ length g.rules
  pub each : (k : ℕ) (p : Production) → slice_get g.rules k ≡ Some p → slice_index counts k ≡ nonterminals_in p.right

-- a size that some tree of a nonterminal has at most; a smaller size is greater, so that it leaves the heap first
abbrev pub Candidate : Type 0
Candidate = Reverse (ℕ × ℕ)

abbrev pub candidate : ℕ → ℕ → Candidate
candidate size number = record { 0 = (size, number) }

abbrev pub by_size : Candidate → Candidate → Ordering
by_size a b = ordering_then (nat_cmp b.0.0 a.0.0) (nat_cmp b.0.1 a.0.1)

-- a candidate is no smaller than what was settled last, and a tree of its nonterminal is as small
pub record IsCandidate (w : Measure) (g : PlainGrammar) (last : ℕ) (c : Candidate) : Type 0 where
  pub later : last ≤ c.0.0
  pub small : c.0.0 ≤ w.limit + 1
  pub number : IsNumberOf g.nonterminals c.0.1
  pub tree : Tree
  pub is_tree : IsTreeOf g c.0.1 tree
  pub size : capped w.limit (size w tree) ≤ c.0.0

-- what a rule's node costs, as a candidate
abbrev pub offered : Measure → List Cost → Production → Candidate
offered w table p = candidate (rank w.limit (node_cost w table p.right)) p.left

-- the rule leads not below the table, or it waits in the heap
abbrev pub IsCovered : Measure → List Cost → List Candidate → Production → Type 0
IsCovered w table heap p = IsBelowRule w table p ⊎ Contains heap (offered w table p)

-- the rule at this index still has to be told that a nonterminal of it was settled last
pub record IsTold (w : Measure) (g : PlainGrammar) (table : List Cost) (last k : ℕ) : Type 0 where
  pub rule : Production
  pub at : slice_get g.rules k ≡ Some rule
  pub later : last ≤ rank w.limit (node_cost w table rule.right)

-- Where the worklist stands: what is settled, how many nonterminals of each rule aren't, and the candidates. The rules of
-- untold are still to be told of what was settled last, and the rules from index done on weren't looked at.
pub record IsAt (w : Measure) (g : PlainGrammar) (table : List Cost) (unsettled : List ℕ) (heap : List Candidate) (last : ℕ) (untold : List ℕ) (done : ℕ) : Type 0 where
  pub sound : IsSound w g table
  pub settled : (n : ℕ) → rank w.limit (entry table n) ≤ w.limit + 1 → rank w.limit (entry table n) ≤ last
  pub ordered : IsHeap by_size heap
  pub candidates : All (IsCandidate w g last) heap
  pub told : All (IsTold w g table last) untold
  pub many : length unsettled ≡ length g.rules
  pub counted : (k : ℕ) (p : Production) → slice_get g.rules k ≡ Some p → slice_index unsettled k ≡ open_in table p.right + occurs k untold
  pub covered : (k : ℕ) (p : Production) → k < done → slice_get g.rules k ≡ Some p → slice_index unsettled k ≡ 0 → IsCovered w table heap p

-- where the worklist stands when a candidate has left the heap
pub record IsTaken (w : Measure) (g : PlainGrammar) (table : List Cost) (unsettled : List ℕ) (heap : List Candidate) (size number : ℕ) : Type 0 where
  pub before : List Candidate
  pub last : ℕ
  pub at : IsAt w g table unsettled before last [] (length g.rules)
  pub taken : IsPermutation before (candidate size number ∷ heap)
  pub ordered : IsHeap by_size heap
  pub least : All (λ c. size ≤ c.0.0) heap
