use Rattle.std.proofs.Common.{◌≡◌}
use Rattle.cs_chain_text.proofs.writing.writing.keep_all.Given as goal

abbrev pub invariant-loop-chain : goal.invariant-loop-chain
invariant-loop-chain l = l.cores ≡ l.fn.cores
