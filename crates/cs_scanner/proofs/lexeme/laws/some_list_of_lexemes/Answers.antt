-- The list of one token fewer, and behind it the last token's lexeme, or none.
use Rattle.cs_scanner.proofs.OnLexeme.LawProofs.{some_list}
use Rattle.cs_scanner.proofs.lexeme.laws.some_list_of_lexemes.Goals as goal

pub returns : goal.returns
returns c = some_list
