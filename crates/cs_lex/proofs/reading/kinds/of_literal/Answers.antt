-- The byte's name gives the token that the literal has in the yacc file, or none.
use Rattle.cs_yacc.specs.declared.reading.name.TokenName.TheVariants.{Byte}
use Rattle.cs_lex.proofs.OnReading.KindsFound.{given_name}
use Rattle.cs_lex.proofs.reading.kinds.of_literal.Goals as goal

pub returns : goal.returns
returns c = given_name c.args.yacc.now (Byte c.args.byte) c.literal.result c.of_token.result c.literal.ensures.found c.literal.ensures.none c.of_token.ensures
