use Rattle.std.proofs.Common.{length}
use Rattle.cs_pattern.specs.Operations.Operations.{ops_of}
use Rattle.cs_pattern.specs.Text.Needed.{ArePlaces}
use Rattle.cs_pattern.proofs.OnText.Pending.{IsBehind, AreTaken, above}
use Rattle.cs_pattern.proofs.text.needed.needed.Given as goal

abbrev pub invariant-loop-place : goal.invariant-loop-place
invariant-loop-place l = (b : IsBehind l.bodies l.order) (a : ArePlaces (length l.bodies) l.order l.places) → AreTaken (ops_of l.ops) l.bodies l.order l.places b a l.needed.items l.pending.keys

abbrev pub decreases-loop-place : goal.decreases-loop-place
decreases-loop-place l = above l.pending.keys
