use Rattle.std.proofs.Common.{◌≡◌, ◌<◌, ℕ, length}
use Rattle.std.specs.Prelude.{Some, slice_get}
use Rattle.std.specs.Global.{Vec}
use Rattle.cs_pattern_parts.specs.declared.items.item.Placed as held
use Rattle.cs_pattern.specs.Operations.Definitions.{definitions_of}
use Rattle.cs_pattern.proofs.OnText.Linked.{HasUses}
use Rattle.cs_pattern.proofs.text.uses.graph_of.Given as goal

abbrev pub invariant-loop-items : goal.invariant-loop-items
invariant-loop-items l = record {
  count : length l.graph.items ≡ l.items-index;
  rows : (i : ℕ) (items : Vec held.Placed) → i < l.items-index → slice_get l.all i ≡ Some items → HasUses (definitions_of l.names.entries) l.graph.items i items.items;
}
