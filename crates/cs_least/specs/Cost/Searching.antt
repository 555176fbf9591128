-- Where the search for costs stands, of the values that the program keeps.
use Rattle.std.specs.Prelude.{ℕ, ◌+◌, List, [], ◌∷◌, length, sum}
use Rattle.std.specs.BinaryHeap.{IsHeap, heap_items}
use Rattle.std.specs.declared.collections.BinaryHeap.{BinaryHeap}
use Rattle.std.specs.Global.{Global}
use Rattle.std.specs.List.Sorted.{IsPermutation}
use Rattle.cs_grammar.specs.Weights.{Measure, Weighs}
use Rattle.cs_least.specs.declared.cost.worklist.Rules.{Rules}
use Rattle.cs_least.specs.declared.cost.worklist.Worklist.{Worklist}
use Rattle.cs_least.specs.Cost.Users.{IsUserTable}
use Rattle.cs_least.specs.Cost.Worklist.{Candidate, by_size, offered, IsAt, IsTaken}
use Rattle.cs_least.specs.Cost.Trees.{IsSound, IsClosed}
use Rattle.cs_least.specs.declared.cost.cost.Cost.{Cost}
use Rattle.cs_grammar.specs.Grammar.{Production}

-- the rules of a grammar with weights, and where its nonterminals stand
pub record AreRules (rules : Rules) : Type 0 where
  pub weighs : Weighs rules.weights.now rules.grammar.now
  pub users : IsUserTable rules.grammar.now rules.users.items

-- no rule was looked at
abbrev pub IsBeforeOffers : Rules → Worklist → Type 0
IsBeforeOffers rules work = IsAt rules.weights.now rules.grammar.now work.table.items work.unsettled.items (heap_items work.heap) 0 [] 0

-- nothing is settled that some rule wasn't told of, and what was settled last has this size
abbrev pub IsReady : Rules → Worklist → ℕ → Type 0
IsReady rules work last = IsAt rules.weights.now rules.grammar.now work.table.items work.unsettled.items (heap_items work.heap) last [] (length rules.grammar.now.rules)

-- a candidate has left the heap
abbrev pub HasTaken : Rules → Worklist → ℕ → ℕ → Type 0
HasTaken rules work size number = IsTaken rules.weights.now rules.grammar.now work.table.items work.unsettled.items (heap_items work.heap) size number

-- how many steps are left at most
abbrev pub to_do : Worklist → ℕ
to_do work = sum work.unsettled.items + length (heap_items work.heap)

-- the node of a rule is among the candidates
pub record Offers (w : Measure) (table : List Cost) (p : Production) (old new : BinaryHeap Candidate Global) : Type 0 where
  pub joins : IsPermutation (offered w table p ∷ heap_items old) (heap_items new)
  pub ordered : IsHeap by_size (heap_items old) → IsHeap by_size (heap_items new)

-- each settled cost is one of a tree, and no rule makes a nonterminal cost less
abbrev pub HasSound : Rules → Worklist → Type 0
HasSound rules work = IsSound rules.weights.now rules.grammar.now work.table.items

abbrev pub HasClosed : Rules → Worklist → Type 0
HasClosed rules work = IsClosed rules.weights.now rules.grammar.now work.table.items
