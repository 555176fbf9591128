use Rattle.std.proofs.Common.{take}
use Rattle.std.specs.List.{AllByRecursion}
use Rattle.cs_pattern_parts.specs.Items.Views.{placed_all}
use Rattle.cs_pattern.specs.Operations.Definitions.{definitions_of}
use Rattle.cs_pattern.specs.Text.Uses.{LeadsTo}
use Rattle.cs_pattern.proofs.text.uses.first_to.Given as goal

abbrev pub invariant-loop-placed : goal.invariant-loop-placed
invariant-loop-placed l = AllByRecursion (λ p. LeadsTo (definitions_of l.names.entries) l.to p → ⊥) (placed_all (take l.placed-index l.items))
