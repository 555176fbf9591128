use Rattle.std.proofs.Common.{◌≡◌, length, take}
use Rattle.cs_member.specs.Chart.Now.{IsNow, ArePut}
use Rattle.cs_member.specs.Chart.Chart.{OfFronts}
use Rattle.cs_member.proofs.chart.chart.put_fronts.Given as goal

abbrev pub invariant-loop-front : goal.invariant-loop-front
invariant-loop-front l = record {
  now : IsNow l.question.grammar.now l.now;
  guesses : length l.guesses ≡ l.question.tables.now.items;
  put : ArePut l.question.grammar.now l.way.ahead l.way.cause (OfFronts l.begun.expected.now (take l.front-index l.begun.fronts.now) l.begun.from) l.fn.now l.now;
}
