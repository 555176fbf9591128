use Rattle.std.proofs.Common.{◌<◌, ℕ}
use Rattle.cs_pattern.specs.Operations.Definitions.{definitions_of}
use Rattle.cs_pattern.specs.Text.Uses.{Reaches}
use Rattle.cs_pattern.proofs.text.uses.check_cycles.Given as goal

abbrev pub invariant-loop-index : goal.invariant-loop-index
invariant-loop-index l = (i : ℕ) → i < l.index → Reaches (definitions_of l.names.entries) i i → ⊥
