-- Both lists have as many places, and at each of them the token has one lexeme, or none.
use Rattle.cs_scanner.proofs.OnLexeme.LawProofs.{one_list}
use Rattle.cs_scanner.proofs.lexeme.laws.one_list_of_lexemes.Goals as goal

pub returns : goal.returns
returns c = one_list
