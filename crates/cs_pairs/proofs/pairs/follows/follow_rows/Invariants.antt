use Rattle.cs_pairs.specs.Pairs.Pairs.{ArePairRows}
use Rattle.cs_pairs.specs.Pairs.Meetings.{AreMeetingRows}
use Rattle.cs_pairs.proofs.pairs.follows.follow_rows.Given as goal

abbrev pub invariant-loop-place : goal.invariant-loop-place
invariant-loop-place l = record {
  costs : ArePairRows l.kinds.weights l.kinds.grammar l.place l.rows.costs.items;
  meetings : AreMeetingRows l.kinds.weights l.kinds.grammar l.place l.rows.meetings.items;
}
