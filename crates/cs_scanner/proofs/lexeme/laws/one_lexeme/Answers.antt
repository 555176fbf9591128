-- Each of two least texts is at most the other, and so they are the same.
use Rattle.cs_scanner.proofs.OnLexeme.LawProofs.{one_lexeme_lem}
use Rattle.cs_scanner.proofs.lexeme.laws.one_lexeme.Goals as goal

pub returns : goal.returns
returns c = one_lexeme_lem
