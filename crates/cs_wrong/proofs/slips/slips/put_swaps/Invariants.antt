use Rattle.std.proofs.Common.{◌≡◌, ◌≤◌, ◌-◌, ◌++◌, length, map}
use Rattle.std.specs.List.{filter, range_with_len}
use Rattle.cs_wrong.specs.Slips.Slips.{differ_at}
use Rattle.cs_wrong.specs.declared.slips.slip.Change.TheVariants.{Swap}
use Rattle.cs_wrong.specs.declared.slips.slip.Slip.TheVariants.{Of}
use Rattle.cs_wrong.proofs.slips.slips.put_swaps.Given as goal

abbrev pub invariant-loop-place : goal.invariant-loop-place
invariant-loop-place l =
    (l.list.items ≡ l.fn.list.items ++ map (Of l.side.rule) (map Swap (filter (differ_at l.side.right.now) (range_with_len 1 (l.place - 1)))))
    × (l.place - 1 ≤ length l.side.right.now - 1)
