-- No byte has a rank below 0.
use Rattle.cs_scanner.proofs.OnLexeme.Ranking.{none_by_rank}
use Rattle.cs_scanner.proofs.lexeme.rank.bytes_by_rank.Goals as goal

pub loop-class-init : goal.loop-class-init
loop-class-init c = rw c.new-bytes.ensures.items none_by_rank
