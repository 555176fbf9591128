use Rattle.std.proofs.Common.{take}
use Rattle.cs_member.specs.Chart.Buckets.{AreBuckets, rows_in}
use Rattle.cs_member.specs.Chart.Chart.{AreRows}
use Rattle.cs_member.proofs.chart.chart.rows_of.Given as goal

abbrev pub invariant-loop-origin : goal.invariant-loop-origin
invariant-loop-origin l = record {
  buckets : AreBuckets l.rows;
  rows : AreRows l.question.grammar.now (take l.origin-index l.origins) (rows_in l.rows);
}
