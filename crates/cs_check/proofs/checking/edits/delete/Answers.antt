-- The token that is deleted stands in the list.
use Rattle.std.proofs.Common.{arith}
use Rattle.cs_check.proofs.checking.edits.delete.Goals as goal

pub patch-requires : goal.patch-requires
patch-requires c = let low = c.in-Some.ensures c.args.at (omega arith) in omega arith
