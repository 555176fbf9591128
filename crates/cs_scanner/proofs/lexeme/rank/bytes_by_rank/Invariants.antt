use Rattle.std.proofs.Common.{◌*◌}
use Rattle.cs_scanner.specs.Lexeme.Bytes.{AreByRank}
use Rattle.cs_scanner.proofs.lexeme.rank.bytes_by_rank.Given as goal

abbrev pub invariant-loop-class : goal.invariant-loop-class
invariant-loop-class l = AreByRank (256 * l.class) l.bytes.items
