-- Item by item, one is spelled that may stand there, or reading stops; and at its end a text may end, or stops.
use Rattle.cs_pattern.proofs.OnText.Existing as existing
use Rattle.cs_pattern.proofs.text.laws.reads_or_stops.Goals as goal

pub returns : goal.returns
returns c = existing.reads_or_stops
