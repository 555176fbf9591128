use Rattle.std.proofs.Common.{◌≡◌, drop}
use Rattle.cs_pattern.specs.Operations.Definitions.{definitions_of}
use Rattle.cs_pattern.specs.Text.Names.{first_undefined}
use Rattle.cs_pattern_parts.specs.Items.Views.{placed_all}
use Rattle.cs_pattern.proofs.text.uses.first_undefined.Given as goal

abbrev pub invariant-loop-placed : goal.invariant-loop-placed
invariant-loop-placed l = first_undefined (definitions_of l.names.entries) (placed_all (drop l.placed-index l.items)) ≡ first_undefined (definitions_of l.names.entries) (placed_all l.items)
