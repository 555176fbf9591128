use Rattle.std.proofs.Common.{take}
use Rattle.cs_chain_text.specs.Rows.Rows.{AreRowsOf}
use Rattle.cs_chain_text.proofs.rows.rows.rows_of.Given as goal

abbrev pub invariant-loop-chain : goal.invariant-loop-chain
invariant-loop-chain l = AreRowsOf l.cores (take l.chain-index l.chains) l.rows.items
