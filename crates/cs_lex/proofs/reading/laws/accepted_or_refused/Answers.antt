-- Where the definitions end, the rules settle it; where they don't, layout stops and the bytes are refused.
use Rattle.cs_lex.proofs.OnReading.AcceptedOrRefused.{settled, stopped}
use Rattle.cs_lex.proofs.reading.laws.accepted_or_refused.Goals as goal

pub returns-in-Some : goal.returns-in-Some
returns-in-Some c = λ yacc. settled c.args.bytes.now yacc c.in-Some.from c.in-Some.ensures.end c.walk_kinds.ensures

pub returns-in_default : goal.returns-in_default
returns-in_default c = λ yacc. stopped c.args.bytes.now yacc c.in_default.ensures.stop
