-- What is open in the rest is open at that place in the bytes.
use Rattle.cs_lex.proofs.OnLayout.Reading.{open_there}
use Rattle.cs_lex.proofs.layout.layout.rule_at.Goals as goal

pub returns-in-Open : goal.returns-in-Open
returns-in-Open c = open_there c.args.bytes.now c.from_offset.result.now c.args.at c.in-Open.len c.from_offset.ensures c.requires.kind c.in-Open.ensures.0
