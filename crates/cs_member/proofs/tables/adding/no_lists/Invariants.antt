use Rattle.std.proofs.Common.{◌≡◌, [], ℕ, length}
use Rattle.std.specs.Prelude.{Some, slice_get}
use Rattle.std.specs.Global.{Vec}
use Rattle.cs_member.proofs.tables.adding.no_lists.Given as goal

abbrev pub invariant-loop : goal.invariant-loop
invariant-loop g l = record {
  size : length l.lists.items ≡ l.counter;
  empty : (n : ℕ) (list : Vec g.row.X.Denot) → slice_get l.lists.items n ≡ Some list → list.items ≡ [];
}
