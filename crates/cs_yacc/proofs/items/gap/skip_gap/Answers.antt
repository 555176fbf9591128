-- One blank or comment more, until none stands at the offset.
use Rattle.std.proofs.Common.{arith}
use Rattle.cs_yacc.proofs.OnItems.Gaps.{gap_none, gap_more}
use Rattle.cs_yacc.proofs.items.gap.skip_gap.Goals as goal

pub loop-end-init : goal.loop-end-init
loop-end-init c = record { gap = gap_none _ _; after = omega arith; within = c.requires }

pub loop-end-preserved : goal.loop-end-preserved
loop-end-preserved c = record {
  gap = gap_more _ _ _ _ c.loop-end.invariant.after (c.in-Some.ensures.within.0) c.loop-end.invariant.gap c.in-Some.ensures.gap;
  after = omega (arith, c.loop-end.invariant.after, c.in-Some.ensures.within.0);
  within = c.in-Some.ensures.within.1;
}
