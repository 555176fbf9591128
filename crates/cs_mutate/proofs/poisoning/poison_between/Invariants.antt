use Rattle.cs_mutate.specs.Poison.{between}
use Rattle.cs_mutate.proofs.Marks.{Looked}
use Rattle.cs_mutate.proofs.poisoning.poison_between.Given as goal

abbrev pub invariant-loop-at : goal.invariant-loop-at
invariant-loop-at l = Looked l.pairs.grammar (between l.fn.left l.list l.right) l.at l.last
