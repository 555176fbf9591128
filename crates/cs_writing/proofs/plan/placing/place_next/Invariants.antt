use Rattle.std.proofs.Common.{◌≡◌, length}
use Rattle.cs_writing.specs.Plan.Placing.{ArePlacedNext}
use Rattle.cs_writing.proofs.plan.placing.place_next.Given as goal

abbrev pub invariant-loop : goal.invariant-loop
invariant-loop l = record {
  placed : ArePlacedNext l.format l.fn.positives l.fn.cases l.positives l.cases l.goals.items;
  tables : l.positives.tables ≡ l.fn.positives.tables;
  grammar : l.cases.grammar ≡ l.fn.cases.grammar;
  many : length l.goals.items ≡ l.counter;
}
