use Rattle.std.proofs.Common.{◌≡◌, ℕ, ◌<◌, length}
use Rattle.cs_member.specs.Chart.Now.{IsNow}
use Rattle.cs_member.specs.Chart.Chart.{AreBefore, AreCaused, Grows, IsFollowed}
use Rattle.cs_member.proofs.chart.chart.complete.Given as goal

abbrev pub invariant-loop-number : goal.invariant-loop-number
invariant-loop-number l = record {
  now : IsNow l.question.grammar.now l.now;
  guesses : length l.guesses ≡ l.question.tables.now.items;
  before : AreBefore l.question.grammar.now (length l.chart) l.now;
  grows : Grows l.question.grammar.now l.ahead l.fn.now l.now;
  caused : AreCaused l.question.grammar.now l.chart l.question.tables.now.nonterminals.items l.fn.now l.now;
  followed : (n : ℕ) → n < l.number → (n < length l.now.spans.items) × IsFollowed l.question.grammar.now l.ahead l.chart l.question.tables.now.nonterminals.items l.now n;
}
