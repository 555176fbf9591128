use Rattle.std.proofs.Common.{ℕ, ◌≤◌, length, List}
use Rattle.cs_pattern.specs.Operations.Definitions.{Definition}
use Rattle.cs_pattern.specs.Text.Needed.{AreOf}
use Rattle.cs_pattern.proofs.OnText.Knowing.{AreKnownFrom}
use Rattle.cs_pattern.proofs.text.needed.known.Given as goal

abbrev pub invariant-loop-end : goal.invariant-loop-end
invariant-loop-end l =
    (l.end ≤ length l.needed)
    × ((ds : List Definition) (order : List ℕ) → AreOf ds l.bodies order → AreKnownFrom ds l.needed l.known.entries l.end)

abbrev pub decreases-loop-end : goal.decreases-loop-end
decreases-loop-end l = l.end
