use Rattle.std.proofs.Common.{◌≡◌, ◌<◌, ℕ, length}
use Rattle.std.specs.Prelude.{Some, slice_get}
use Rattle.cs_pattern.specs.Operations.Definitions.{Definition, definitions_of}
use Rattle.cs_pattern.specs.Text.Stages.{HasOperations}
use Rattle.cs_pattern.proofs.text.checking.operations.Given as goal

abbrev pub invariant-loop-items : goal.invariant-loop-items
invariant-loop-items l = record {
  count : length l.bodies.items ≡ l.items-index;
  each : (i : ℕ) (d : Definition) → i < l.items-index → slice_get (definitions_of l.texts.entries) i ≡ Some d → HasOperations (definitions_of l.texts.entries) l.bodies.items i d.text;
}
