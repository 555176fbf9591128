use Rattle.std.proofs.Common.{◌≡◌, length}
use Rattle.cs_member.specs.Tables.Sets.{InWords}
use Rattle.cs_member.specs.Chart.Now.{IsNow, IsPutTo}
use Rattle.cs_member.proofs.chart.now.put.Given as goal

abbrev pub invariant-loop-place : goal.invariant-loop-place
invariant-loop-place l = record {
  now : IsNow l.question.grammar.now l.now;
  guesses : length l.guesses ≡ l.question.tables.now.items;
  put : IsPutTo l.question.grammar.now l.way.ahead l.way.cause l.first (InWords l.words) l.place l.fn.now l.now;
}
