use Rattle.std.proofs.Common.{length}
use Rattle.cs_mutate.proofs.Searching.{Passed}
use Rattle.cs_mutate.proofs.negative.next_whole.Given as goal

abbrev pub invariant-loop-edit : goal.invariant-loop-edit
invariant-loop-edit l = Passed l.pairs.grammar l.base l.fn.edits l.edits

abbrev pub decreases-loop-edit : goal.decreases-loop-edit
decreases-loop-edit l = length l.edits
