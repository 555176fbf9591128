use Rattle.std.proofs.Common.{◌≤◌, ◌-◌, length, drop}
use Rattle.cs_yacc.specs.Items.Items.{IsGap}
use Rattle.cs_yacc.proofs.items.gap.skip_gap.Given as goal

abbrev pub invariant-loop-end : goal.invariant-loop-end
invariant-loop-end l = record {
  gap : IsGap (drop l.from l.bytes) (l.at - l.from);
  after : l.from ≤ l.at;
  within : l.at ≤ length l.bytes;
}

abbrev pub decreases-loop-end : goal.decreases-loop-end
decreases-loop-end l = length l.bytes - l.at
