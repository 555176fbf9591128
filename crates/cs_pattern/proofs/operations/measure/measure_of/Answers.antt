-- Operation by operation the stack is that of the run, and the tree's measure ends on top.
use Rattle.std.proofs.Common.{◌∙◌, List, [], ap, arith}
use Rattle.std.proofs.lemmas.List.{take_all}
use Rattle.cs_pattern.specs.declared.operations.operations.Op as code
use Rattle.cs_pattern.specs.Operations.Evaluation.{run, top}
use Rattle.cs_pattern.specs.Operations.Measures.{measures}
use Rattle.cs_pattern.specs.Operations.Operations.{ops_of}
use Rattle.cs_pattern.proofs.OnOperations.Evaluating.{run_more}
use Rattle.cs_pattern.proofs.OnOperations.Measured.{measured}
use Rattle.cs_pattern.proofs.operations.measure.measure_of.Goals as goal

pub loop-op-preserved : goal.loop-op-preserved
loop-op-preserved c =
    run_more (measures c.args.known.now) [] _ _ c.args.ops.now c.loop-op.op-index c.op-item.result c.loop-op-test.true c.op-item.is c.loop-op.invariant c.in_ok-apply.ensures

pub returns : goal.returns
returns c = λ tree given.
    c.take_top.ensures.value
    ∙ ap (top (measures c.args.known.now)) (c.loop-op.invariant ∙ ap (λ (ops : List code.Op). run (measures c.args.known.now) [] (ops_of ops)) (take_all c.loop-op.op-index c.args.ops.now (omega arith)))
    ∙ measured c.args.known.now (ops_of c.args.ops.now) tree given
