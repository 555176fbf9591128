-- Where the rest begins with no closed block, the block at the offset is open.
use Rattle.std.proofs.Common.{refl}
use Rattle.cs_lex.proofs.OnLayout.Reading.{no_block_there}
use Rattle.cs_lex.proofs.layout.layout.block_at.Goals as goal

pub returns-in-None-clause-unclosed : goal.returns-in-None-clause-unclosed
returns-in-None-clause-unclosed c = (refl, no_block_there c.args.bytes.now c.from_offset.result.now c.args.at c.from_offset.ensures c.in-None.ensures.unclosed)
