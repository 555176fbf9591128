use Rattle.std.proofs.Common.{◌≡◌, ◌+◌, ◌++◌, drop, reverse}
use Rattle.cs_verdicts.specs.Cases.Met.{spots_from}
use Rattle.cs_verdicts.proofs.cases.met.open_children.Given as goal

abbrev pub invariant-loop-at : goal.invariant-loop-at
invariant-loop-at l = reverse l.spots.items ≡ spots_from l.outer (l.at + 1) (drop l.at l.right) ++ reverse l.fn.spots.items
