use Rattle.std.proofs.Common.{◌++◌, ℕ, List, reverse}
use Rattle.std.specs.Prelude.{All}
use Rattle.cs_member.specs.Derivation.Writing.{IsTask, Writes, WritesAll}
use Rattle.std.specs.List.{sum_by}
use Rattle.cs_member.proofs.OnDerivation.Weighing.{weigh}
use Rattle.cs_member.proofs.derivation.writing.write_backwards.Given as goal

abbrev pub invariant-loop-task : goal.invariant-loop-task
invariant-loop-task l = record {
  there : All (IsTask l.question.grammar.now l.question.tables.now l.chart) l.tasks.items;
  writes : (rules : List ℕ) → WritesAll l.question.grammar.now l.question.tokens.now l.chart l.tasks.items rules
      → Writes l.question.grammar.now l.question.tokens.now l.chart l.fn.task (rules ++ reverse l.backwards.items);
}

abbrev pub decreases-loop-task : goal.decreases-loop-task
decreases-loop-task l = sum_by (weigh l.question.tables.now.rounds.items) l.tasks.items
