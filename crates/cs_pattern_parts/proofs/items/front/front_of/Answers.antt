-- What the front tells is what the text spells there, or why it spells none.
use Rattle.cs_pattern_parts.proofs.OnItems.Fronts.{front_spelled_ok}
use Rattle.cs_pattern_parts.proofs.items.front.front_of.Goals as goal

pub returns-clause-spelled : goal.returns-clause-spelled
returns-clause-spelled c = front_spelled_ok c.args.text.now c.read_front.result c.read_front.ensures.value
