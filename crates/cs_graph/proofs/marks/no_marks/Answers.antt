-- A list that repeats false marks no node.
use Rattle.cs_graph.proofs.Counting.{unmarked-replicate}
use Rattle.std.proofs.lemmas.Grind.{common_steps}
use Rattle.std.proofs.Common.{arith}
use Rattle.cs_graph.proofs.marks.no_marks.Goals as goal

pub returns-clause-unmarked : goal.returns-clause-unmarked
returns-clause-unmarked c = grind (arith, common_steps, unmarked-replicate)
