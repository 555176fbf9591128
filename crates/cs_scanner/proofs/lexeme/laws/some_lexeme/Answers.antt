-- A text that isn't the least has one of a lower number before it, and numbers don't fall forever.
use Rattle.cs_scanner.proofs.OnLexeme.LawProofs.{some_lexeme_lem}
use Rattle.cs_scanner.proofs.lexeme.laws.some_lexeme.Goals as goal

pub returns : goal.returns
returns c = some_lexeme_lem
