-- Where the first line of the rest has no form of a definition, none is at the offset.
use Rattle.std.proofs.Common.{refl}
use Rattle.cs_lex.proofs.OnLayout.Reading.{no_definition_there}
use Rattle.cs_lex.proofs.layout.layout.definition_at.Goals as goal

pub returns-in-None-clause-none : goal.returns-in-None-clause-none
returns-in-None-clause-none c = (refl, no_definition_there c.args.bytes.now c.from_offset.result.now c.line_of.result.now c.args.at c.from_offset.ensures c.line_of.ensures c.in-None.ensures.none)
