-- The first are the same.
use Rattle.std.proofs.Common.{◌≡◌, take}
use Rattle.cs_texts.proofs.splice.common.same_front.Given as goal

abbrev pub invariant-loop-i : goal.invariant-loop-i
invariant-loop-i l = take l.i l.tokens ≡ take l.i l.other
