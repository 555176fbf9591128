-- Parts that pass no limit have few tokens and nonterminals, and make a file.
use Rattle.cs_yacc.specs.Reading.PartsView.{parts_in}
use Rattle.cs_yacc.proofs.OnReading.Fits.{few_symbols}
use Rattle.cs_yacc.proofs.reading.read.file_or_limit.Goals as goal

pub invariant_of-accepted-clause-few_tokens : goal.invariant_of-accepted-clause-few_tokens
invariant_of-accepted-clause-few_tokens c = (few_symbols (parts_in c.args.parts.now) c.in-Ok.ensures).0

pub invariant_of-accepted-clause-few_lefts : goal.invariant_of-accepted-clause-few_lefts
invariant_of-accepted-clause-few_lefts c = (few_symbols (parts_in c.args.parts.now) c.in-Ok.ensures).1

pub build-requires : goal.build-requires
build-requires c = c.requires c.in-Ok.ensures
