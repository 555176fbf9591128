use Rattle.std.proofs.Common.{take}
use Rattle.std.specs.Prelude.{All}
use Rattle.cs_member.specs.Tables.Tables.{HasEmpty}
use Rattle.cs_member.proofs.tables.empties.have_empty.Given as goal

abbrev pub invariant-loop-symbol : goal.invariant-loop-symbol
invariant-loop-symbol l = All (HasEmpty l.empties) (take l.symbol-index l.symbols)
