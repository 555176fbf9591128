use Rattle.std.proofs.Common.{◌≡◌, take}
use Rattle.cs_member.specs.Tables.Sets.{InWords}
use Rattle.cs_member.specs.Chart.Now.{Ends, IsNow}
use Rattle.cs_member.proofs.chart.now.end.Given as goal

abbrev pub invariant-loop-word : goal.invariant-loop-word
invariant-loop-word l = record {
  now : IsNow l.grammar l.now;
  origins : l.now.origins.items ≡ l.fn.now.origins.items;
  ends : Ends l.left l.cause (InWords (take l.word-index l.words)) l.fn.now.spans.items l.now.spans.items;
}
