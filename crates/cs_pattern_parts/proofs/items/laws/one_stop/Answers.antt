-- Whatever stops a text, the front finds, and the front is one.
use Rattle.cs_pattern_parts.proofs.OnItems.Fronts.{one_stopped}
use Rattle.cs_pattern_parts.proofs.items.laws.one_stop.Goals as goal

pub returns : goal.returns
returns c = one_stopped
