use Rattle.std.proofs.Common.{◌≡◌, take}
use Rattle.cs_pattern.specs.Text.Needed.{add_used}
use Rattle.cs_pattern.specs.Operations.Operations.{ops_of}
use Rattle.cs_pattern.proofs.text.needed.add_used.Given as goal

abbrev pub invariant-loop-op : goal.invariant-loop-op
invariant-loop-op l = l.pending.keys ≡ add_used l.places l.initial.pending.keys (ops_of (take l.op-index l.ops))
