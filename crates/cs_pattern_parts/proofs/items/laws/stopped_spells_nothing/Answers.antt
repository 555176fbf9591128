-- The front is an item or a stop, and not both.
use Rattle.cs_pattern_parts.proofs.OnItems.Fronts.{stopped_no_item}
use Rattle.cs_pattern_parts.proofs.items.laws.stopped_spells_nothing.Goals as goal

pub returns : goal.returns
returns c = stopped_no_item
