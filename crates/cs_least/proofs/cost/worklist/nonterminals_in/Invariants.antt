use Rattle.std.proofs.Common.{◌≡◌, ◌+◌, ◌≤◌, drop}
use Rattle.cs_least.specs.Cost.Worklist.{nonterminals_in}
use Rattle.cs_least.proofs.cost.worklist.nonterminals_in.Given as goal

-- the count so far, with what is left, is the whole count
abbrev pub invariant-loop-symbol : goal.invariant-loop-symbol
invariant-loop-symbol l = record {
  few : l.count ≤ l.symbol-index;
  whole : l.count + nonterminals_in (drop l.symbol-index l.symbols) ≡ nonterminals_in l.symbols;
}
