use Rattle.std.proofs.Common.{◌≡◌, ℕ, ◌<◌, false}
use Rattle.cs_bytes.specs.Places.{has_pair}
use Rattle.cs_bytes.proofs.place.find_pair.Given as goal

abbrev pub invariant-loop-index : goal.invariant-loop-index
invariant-loop-index l = (k : ℕ) → k < l.index → has_pair l.text k l.first l.second ≡ false
