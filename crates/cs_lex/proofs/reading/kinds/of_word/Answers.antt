-- The word's name gives the token that it has in the yacc file, or none.
use Rattle.cs_yacc.specs.declared.reading.name.TokenName.TheVariants.{Word}
use Rattle.cs_lex.proofs.OnReading.KindsFound.{given_name}
use Rattle.cs_lex.proofs.reading.kinds.of_word.Goals as goal

pub returns : goal.returns
returns c = given_name c.args.yacc.now (Word c.args.word.now) c.token.result c.of_token.result c.token.ensures.found c.token.ensures.none c.of_token.ensures
