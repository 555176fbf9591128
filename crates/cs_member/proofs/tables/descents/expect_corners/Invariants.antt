use Rattle.cs_member.specs.Tables.Expecting.{AreMarked, Marks}
use Rattle.cs_member.proofs.OnChart.Marking.{AreFollowed}
use Rattle.cs_member.proofs.tables.descents.expect_corners.Given as goal

abbrev pub invariant-loop-number : goal.invariant-loop-number
invariant-loop-number l = record {
  marked : AreMarked l.expected.items l.pending.items;
  marks : Marks l.fn.expected.items l.fn.pending.items l.expected.items l.pending.items;
  followed : AreFollowed l.corners l.expected.items l.pending.items l.number;
}
