-- The order is total, and a text that comes before another stands for a lower number.
use Rattle.cs_scanner.proofs.OnLexeme.LawProofs.{ordered_texts}
use Rattle.cs_scanner.proofs.lexeme.laws.total_order.Goals as goal

pub returns : goal.returns
returns c = ordered_texts
