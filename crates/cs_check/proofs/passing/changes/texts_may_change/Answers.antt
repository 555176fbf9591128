-- A text stands for one that scans to the same tokens, and all other lines are the same.
use Rattle.cs_check.proofs.OnPassing.Changing.{texts_change}
use Rattle.cs_check.proofs.passing.changes.texts_may_change.Goals as goal

pub returns : goal.returns
returns c k text other lines others are is same passes = texts_change k text other lines others are is same passes
