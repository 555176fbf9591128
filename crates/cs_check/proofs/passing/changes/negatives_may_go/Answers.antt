-- A line that stays is right with fewer negatives above it too, once it is numbered anew.
use Rattle.cs_check.proofs.OnPassing.Changing.{negatives_go}
use Rattle.cs_check.proofs.passing.changes.negatives_may_go.Goals as goal

pub returns : goal.returns
returns c k text other lines others are is fewer passes = negatives_go k text other lines others are is fewer passes
