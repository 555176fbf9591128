use Rattle.std.proofs.Common.{◌≡◌, take}
use Rattle.std.specs.List.{filter_map}
use Rattle.cs_pattern_parts.specs.Items.Items.{items_of}
use Rattle.cs_pattern_parts.specs.Items.Views.{placed_all}
use Rattle.cs_pattern.specs.Operations.Definitions.{definitions_of}
use Rattle.cs_pattern.specs.Text.Uses.{used}
use Rattle.cs_pattern.proofs.text.uses.uses_of.Given as goal

abbrev pub invariant-loop-placed : goal.invariant-loop-placed
invariant-loop-placed l = l.uses.items ≡ filter_map (used (definitions_of l.names.entries)) (items_of (placed_all (take l.placed-index l.items)))
