-- There are few classes, so the rank is a small number, and it is computed as it is defined.
use Rattle.std.proofs.Common.{arith}
use Rattle.cs_scanner.specs.Lexeme.Rank.{rank}
use Rattle.cs_scanner.proofs.OnLexeme.Ranking.{few_classes}
use Rattle.cs_scanner.proofs.lexeme.rank.rank.Goals as goal

pub overflow_mul-result : goal.overflow_mul-result
overflow_mul-result c = omega (arith, few_classes c.args.byte, c.class_of.ensures)

pub overflow_add-result : goal.overflow_add-result
overflow_add-result c = omega (arith, few_classes c.args.byte, c.class_of.ensures)

pub returns : goal.returns
unfolding rank
returns c = cc
