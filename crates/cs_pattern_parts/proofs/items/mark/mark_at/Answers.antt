-- The end of the run of the whole text is that of the rest, as many bytes on.
use Rattle.cs_bytes.specs.Classes.{is_inner}
use Rattle.cs_bytes.proofs.RunEnds.{end_left}
use Rattle.cs_pattern_parts.proofs.items.mark.mark_at.Goals as goal

pub mark_of-requires : goal.mark_of-requires
mark_of-requires c = end_left is_inner c.args.text.now c.from_offset.result.now c.args.at 2 c.run_end.result c.from_offset.ensures c.run_end.ensures
