use Rattle.std.proofs.Common.{◌≡◌, ◌∷◌, take}
use Rattle.std.specs.List.{enumerate_from, flat_map}
use Rattle.cs_wrong.specs.Slips.Slips.{slips_in}
use Rattle.cs_wrong.specs.declared.slips.slip.Slip.TheVariants.{Empty}
use Rattle.cs_wrong.proofs.slips.slips.slips_of.Given as goal

abbrev pub invariant-loop-at : goal.invariant-loop-at
invariant-loop-at l = l.list.items ≡ Empty ∷ flat_map (slips_in l.chosen) (enumerate_from 1 (take l.at l.grammar.rules))
