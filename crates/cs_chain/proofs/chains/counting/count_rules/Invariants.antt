use Rattle.std.proofs.Common.{◌*◌}
use Rattle.cs_grammar.specs.Grammar.{Production}
use Rattle.cs_chain.specs.Chains.Counts.{AreAtMost, IsCounted}
use Rattle.cs_chain.proofs.chains.counting.count_rules.Given as goal

abbrev pub invariant-loop-rule : goal.invariant-loop-rule
invariant-loop-rule l = IsCounted l.grammar (λ (p : Production). 1) l.rule-index l.table.items × AreAtMost (l.rule-index * 1) l.table.items
