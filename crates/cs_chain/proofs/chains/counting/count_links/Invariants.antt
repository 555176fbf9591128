use Rattle.std.proofs.Common.{◌*◌}
use Rattle.cs_chain.specs.Chains.Counts.{links_of, AreAtMost, IsCounted}
use Rattle.cs_chain.proofs.chains.counting.count_links.Given as goal

abbrev pub invariant-loop-rule : goal.invariant-loop-rule
invariant-loop-rule l = IsCounted l.grammar (links_of l.grammar) l.rule-index l.table.items × AreAtMost (l.rule-index * 1048576) l.table.items
