use Rattle.std.proofs.Common.{◌≡◌, ◌++◌, take}
use Rattle.cs_member.specs.Derivation.Writing.{empty_tasks}
use Rattle.cs_member.proofs.derivation.writing.leave_empties.Given as goal

abbrev pub invariant-loop-symbol : goal.invariant-loop-symbol
invariant-loop-symbol l = l.tasks.items ≡ l.fn.tasks.items ++ empty_tasks (take l.symbol-index l.symbols)
