use Rattle.std.proofs.Common.{◌≡◌, ℕ, Bool, false, length}
use Rattle.std.specs.Prelude.{Some, slice_get}
use Rattle.cs_member.proofs.tables.descents.none_expected.Given as goal

abbrev pub invariant-loop : goal.invariant-loop
invariant-loop l = record {
  size : length l.expected.items ≡ l.counter;
  none : (n : ℕ) (b : Bool) → slice_get l.expected.items n ≡ Some b → b ≡ false;
}
