use Rattle.std.proofs.Common.{◌≡◌, ◌<◌, ℕ}
use Rattle.std.specs.Prelude.{Some, None, slice_get}
use Rattle.std.specs.Global.{Vec}
use Rattle.cs_pattern_parts.specs.declared.items.item.Placed as held
use Rattle.cs_pattern_parts.specs.Items.Views.{placed_all}
use Rattle.cs_pattern.specs.Operations.Definitions.{definitions_of}
use Rattle.cs_pattern.specs.Text.Names.{first_undefined}
use Rattle.cs_pattern.proofs.text.checking.check_names.Given as goal

abbrev pub invariant-loop-index : goal.invariant-loop-index
invariant-loop-index l = (i : ℕ) (items : Vec held.Placed) → i < l.index → slice_get l.all i ≡ Some items → first_undefined (definitions_of l.texts.entries) (placed_all items.items) ≡ None
