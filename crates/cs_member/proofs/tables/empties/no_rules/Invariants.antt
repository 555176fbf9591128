use Rattle.std.proofs.Common.{◌≡◌, ℕ, length}
use Rattle.std.specs.Prelude.{Some, slice_get}
use Rattle.cs_member.proofs.tables.empties.no_rules.Given as goal

abbrev pub invariant-loop : goal.invariant-loop
invariant-loop l = record {
  size : length l.rules.items ≡ l.counter;
  none : (a r : ℕ) → slice_get l.rules.items a ≡ Some r → r ≡ 0;
}
