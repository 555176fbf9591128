use Rattle.std.proofs.Common.{◌≡◌, ◌<◌, ◌≤◌, ◌-◌, ℕ, length}
use Rattle.std.specs.Prelude.{Some, slice_get}
use Rattle.cs_pattern.specs.Operations.Definitions.{Definition, definitions_of}
use Rattle.cs_pattern.specs.Text.Stages.{HasItems}
use Rattle.cs_pattern.proofs.text.checking.read_all.Given as goal

abbrev pub invariant-loop-text : goal.invariant-loop-text
invariant-loop-text l = record {
  within : length l.all.items ≤ length l.texts.entries;
  each : (i : ℕ) (d : Definition) → i < length l.all.items → slice_get (definitions_of l.texts.entries) i ≡ Some d → HasItems l.all.items i d.text;
}

abbrev pub decreases-loop-text : goal.decreases-loop-text
decreases-loop-text l = length l.texts.entries - length l.all.items
