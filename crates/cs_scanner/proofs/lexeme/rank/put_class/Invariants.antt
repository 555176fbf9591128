use Rattle.std.proofs.Common.{◌+◌, ◌*◌}
use Rattle.cs_scanner.specs.Lexeme.Bytes.{AreByRank}
use Rattle.cs_scanner.proofs.lexeme.rank.put_class.Given as goal

abbrev pub invariant-loop-value : goal.invariant-loop-value
invariant-loop-value l = AreByRank (256 * l.class + l.value) l.bytes.items
