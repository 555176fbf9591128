use Rattle.std.proofs.Common.{◌≡◌, take}
use Rattle.cs_scanner.proofs.lexeme.order.is_before.Given as goal

abbrev pub invariant-loop-i : goal.invariant-loop-i
invariant-loop-i l = take l.i l.text ≡ take l.i l.other
