use Rattle.std.proofs.Common.{◌≡◌, length}
use Rattle.cs_member.specs.Chart.Now.{IsNow}
use Rattle.cs_member.specs.Chart.Made.{IsChart}
use Rattle.cs_member.proofs.chart.chart.positions_of.Given as goal

abbrev pub invariant-loop : goal.invariant-loop
invariant-loop l = record {
  now : IsNow l.question.grammar.now l.now;
  guesses : length l.guesses ≡ l.question.tables.now.items;
  chart : IsChart l.question.grammar.now l.question.tables.now l.question.tokens.now l.counter l.chart.items;
}
