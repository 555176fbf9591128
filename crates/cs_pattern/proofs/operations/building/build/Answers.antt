-- Operation by operation the stack is that of the run, whose patterns stay shallow, and the tree's pattern ends on top.
use Rattle.std.proofs.Common.{◌+◌, ◌∙◌, List, [], refl, ap, arith}
use Rattle.std.proofs.lemmas.List.{take_all}
use Rattle.cs_pattern.specs.declared.operations.operations.Op as code
use Rattle.cs_pattern.specs.Operations.Building.{IsShallow, next_stack, patterns}
use Rattle.cs_pattern.specs.Operations.Trees.{known_at}
use Rattle.cs_pattern.specs.Operations.Evaluation.{run, top}
use Rattle.cs_pattern.specs.Operations.Operations.{ops_of}
use Rattle.cs_pattern.proofs.OnOperations.Built.{built}
use Rattle.cs_pattern.proofs.OnOperations.Evaluating.{run_more}
use Rattle.cs_pattern.proofs.OnOperations.Keeping.{keeps_built}
use Rattle.cs_pattern.proofs.OnOperations.Shallow.{stay_shallow}
use Rattle.cs_pattern.proofs.operations.building.build.Goals as goal

pub apply-requires-clause-before : goal.apply-requires-clause-before
apply-requires-clause-before c =
    keeps_built (patterns (known_at c.args.known.now.entries)) IsShallow c.args.ops.now c.loop-op.op-index _ (let t = c.loop-op-test.true in omega arith) (stay_shallow c.args.known.now.entries (ops_of c.args.ops.now) c.requires) c.loop-op.invariant

pub apply-requires-clause-after : goal.apply-requires-clause-after
apply-requires-clause-after c =
    keeps_built (patterns (known_at c.args.known.now.entries)) IsShallow c.args.ops.now (c.loop-op.op-index + 1) (next_stack c.args.known.now.entries c.loop-op.stack.items c.op-item.result)
    (let t = c.loop-op-test.true in omega arith) (stay_shallow c.args.known.now.entries (ops_of c.args.ops.now) c.requires)
    (run_more (patterns (known_at c.args.known.now.entries)) [] _ _ c.args.ops.now c.loop-op.op-index c.op-item.result c.loop-op-test.true c.op-item.is c.loop-op.invariant refl)

pub loop-op-preserved : goal.loop-op-preserved
loop-op-preserved c =
    run_more (patterns (known_at c.args.known.now.entries)) [] _ _ c.args.ops.now c.loop-op.op-index c.op-item.result c.loop-op-test.true c.op-item.is c.loop-op.invariant c.in_ok-apply.ensures

pub returns : goal.returns
returns c = λ tree given.
    c.take_top.ensures.taken
    ∙ ap (top (patterns (known_at c.args.known.now.entries))) (c.loop-op.invariant ∙ ap (λ (ops : List code.Op). run (patterns (known_at c.args.known.now.entries)) [] (ops_of ops)) (take_all c.loop-op.op-index c.args.ops.now (omega arith)))
    ∙ built c.args.known.now.entries (ops_of c.args.ops.now) tree given
