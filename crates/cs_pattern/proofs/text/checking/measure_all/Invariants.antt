use Rattle.std.proofs.Common.{◌≡◌, ℕ, List, length, take}
use Rattle.std.specs.Prelude.{Contains}
use Rattle.cs_pattern.specs.Text.Checked.{IsOrder}
use Rattle.cs_pattern.specs.Operations.Definitions.{Definition}
use Rattle.cs_pattern.specs.Text.Stages.{AreOperations, IsMeasured}
use Rattle.cs_pattern.proofs.text.checking.measure_all.Given as goal

abbrev pub invariant-loop-index : goal.invariant-loop-index
invariant-loop-index l = record {
  count : length l.measures.items ≡ length l.bodies;
  each : (ds : List Definition) → AreOperations ds l.bodies → IsOrder ds l.order → (i : ℕ) → Contains (take l.index-index l.order) i → IsMeasured ds l.measures.items i;
}
