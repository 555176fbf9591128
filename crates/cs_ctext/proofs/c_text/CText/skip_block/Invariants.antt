use Rattle.std.proofs.Common.{◌≡◌, ◌-◌, length}
use Rattle.cs_ctext.proofs.BlockSteps.{BlockGoes}
use Rattle.cs_ctext.proofs.c_text.CText.skip_block.Given as goal

abbrev pub invariant-loop-from : goal.invariant-loop-from
invariant-loop-from l = (l.self ≡ l.bytes) × BlockGoes l.bytes l.at l.from l.depth

abbrev pub decreases-loop-from : goal.decreases-loop-from
decreases-loop-from l = length l.bytes - l.from
