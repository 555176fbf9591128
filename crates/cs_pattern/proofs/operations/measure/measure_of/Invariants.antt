use Rattle.std.proofs.Common.{◌≡◌, [], take}
use Rattle.cs_pattern.specs.Operations.Evaluation.{run}
use Rattle.cs_pattern.specs.Operations.Measures.{measures}
use Rattle.cs_pattern.specs.Operations.Operations.{ops_of}
use Rattle.cs_pattern.proofs.operations.measure.measure_of.Given as goal

abbrev pub invariant-loop-op : goal.invariant-loop-op
invariant-loop-op l = l.stack.items ≡ run (measures l.known) [] (ops_of (take l.op-index l.ops))
