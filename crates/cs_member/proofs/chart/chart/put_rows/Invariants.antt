use Rattle.std.proofs.Common.{◌≡◌, length, take}
use Rattle.cs_member.specs.Chart.Now.{IsNow, ArePut}
use Rattle.cs_member.specs.Chart.Chart.{OfRows}
use Rattle.cs_member.proofs.chart.chart.put_rows.Given as goal

abbrev pub invariant-loop-row : goal.invariant-loop-row
invariant-loop-row l = record {
  now : IsNow l.question.grammar.now l.now;
  guesses : length l.guesses ≡ l.question.tables.now.items;
  put : ArePut l.question.grammar.now l.way.ahead l.way.cause (OfRows (take l.row-index l.rows)) l.fn.now l.now;
}
