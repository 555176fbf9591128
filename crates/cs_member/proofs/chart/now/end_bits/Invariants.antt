use Rattle.std.proofs.Common.{◌≡◌, ◌<◌, ℕ}
use Rattle.std.specs.Int.{bit_at}
use Rattle.cs_member.specs.Chart.Now.{Ends}
use Rattle.cs_member.proofs.OnChart.Rows.{Taken}
use Rattle.cs_member.proofs.chart.now.end_bits.Given as goal

abbrev pub invariant-loop-bits : goal.invariant-loop-bits
invariant-loop-bits l = record {
  ends : Ends l.left l.cause (Taken l.word l.bits) l.fn.spans.items l.spans.items;
  subset : (i : ℕ) → i < 64 → bit_at l.bits i ≡ 1 → bit_at l.word.bits i ≡ 1;
}

abbrev pub decreases-loop-bits : goal.decreases-loop-bits
decreases-loop-bits l = l.bits
