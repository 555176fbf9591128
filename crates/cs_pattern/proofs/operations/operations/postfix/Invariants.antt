use Rattle.std.proofs.Common.{◌≡◌, [], take}
use Rattle.cs_pattern.specs.Operations.Definitions.{definitions_of}
use Rattle.cs_pattern_parts.specs.Items.Items.{items_of}
use Rattle.cs_pattern.specs.Operations.Operations.{number_of}
use Rattle.cs_pattern.specs.Operations.Postfix.{state_of, new_level, state_after}
use Rattle.cs_pattern_parts.specs.Items.Views.{placed_all}
use Rattle.cs_pattern.proofs.operations.operations.postfix.Given as goal

abbrev pub invariant-loop-placed : goal.invariant-loop-placed
invariant-loop-placed l = state_of l.reader ≡ state_after (number_of (definitions_of l.names.entries)) (record { ops = []; outer = []; level = new_level }) (items_of (placed_all (take l.placed-index l.items)))
