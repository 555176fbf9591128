-- The last are the same.
use Rattle.std.proofs.Common.{◌≡◌, ◌-◌, drop, length}
use Rattle.cs_texts.proofs.splice.common.same_back.Given as goal

abbrev pub invariant-loop-i : goal.invariant-loop-i
invariant-loop-i l = drop (length l.tokens - l.i) l.tokens ≡ drop (length l.other - l.i) l.other
