use Rattle.std.proofs.Common.{take}
use Rattle.cs_texts.specs.Splice.Apart.{AreApart}
use Rattle.cs_writing.proofs.plan.texts.room_apart.Given as goal

abbrev pub invariant-loop-token : goal.invariant-loop-token
invariant-loop-token l = AreApart l.texts.apart.now (take l.token-index l.tokens)
