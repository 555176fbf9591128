use Rattle.std.proofs.Common.{◌+◌}
use Rattle.cs_member.proofs.OnChart.Ending.{AreEndsFrom}
use Rattle.cs_member.proofs.chart.now.forget_ends.Given as goal

abbrev pub invariant-loop-span : goal.invariant-loop-span
invariant-loop-span l = AreEndsFrom (l.grammar.nonterminals + 1) l.ends.items l.spans l.span-index
