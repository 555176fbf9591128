use Rattle.std.proofs.Common.{◌≡◌, ◌++◌, map}
use Rattle.std.specs.List.{range_with_len}
use Rattle.cs_wrong.specs.declared.slips.slip.Change.TheVariants.{Double}
use Rattle.cs_wrong.specs.declared.slips.slip.Slip.TheVariants.{Of}
use Rattle.cs_wrong.proofs.slips.slips.put_doubles.Given as goal

abbrev pub invariant-loop-place : goal.invariant-loop-place
invariant-loop-place l = l.list.items ≡ l.fn.list.items ++ map (Of l.side.rule) (map Double (range_with_len 1 l.place))
