use Rattle.std.proofs.Common.{take}
use Rattle.cs_member.specs.Tables.Expecting.{Stays, IsDescended}
use Rattle.cs_member.specs.Chart.Made.{AreAwaited}
use Rattle.cs_member.specs.Tables.Sets.{Has}
use Rattle.cs_member.proofs.chart.chart.expect_awaited.Given as goal

abbrev pub invariant-loop-origin : goal.invariant-loop-origin
invariant-loop-origin l = record {
  stays : Stays l.fn.expected.items l.expected.items;
  closed : IsDescended l.question.tables.now.corners.items (Has l.expected.items);
  awaited : AreAwaited l.question.grammar.now (take l.origin-index l.origins) l.expected.items;
}
