use Rattle.std.proofs.Common.{◌≡◌, ◌≤◌, List, length}
use Rattle.cs_mutate.specs.Keeping.{Tells}
use Rattle.cs_mutate.specs.declared.negative.Negative.{Negative}
use Rattle.cs_mutate.proofs.Looking.{Dropped}
use Rattle.cs_mutate.proofs.kept.Keeper.next.Given as goal

abbrev pub invariant-loop-negative : goal.invariant-loop-negative
invariant-loop-negative l = record {
  first : l.self.first ≡ l.fn.self.first;
  tokens : l.self.tokens ≡ l.fn.self.tokens;
  grammar : l.search.grammar ≡ l.fn.search.grammar;
  base : l.search.base ≡ l.fn.search.base;
  fewer : length l.search.edits ≤ length l.fn.search.edits;
  told : (before : List Negative) → Tells l.fn.self before → Tells l.self before;
  looked : (before : List Negative) → Tells l.fn.self before
      → Dropped l.fn.search.grammar l.fn.search.base l.fn.self.first before l.fn.search.edits l.search.edits;
}

abbrev pub decreases-loop-negative : goal.decreases-loop-negative
decreases-loop-negative l = length l.search.edits
