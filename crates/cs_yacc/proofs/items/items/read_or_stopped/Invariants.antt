use Rattle.std.proofs.Common.{◌≡◌, List, length, ◌-◌}
use Rattle.cs_yacc.specs.Items.Items.{Placed}
use Rattle.cs_yacc.proofs.OnItems.Reading.{HasRead}
use Rattle.cs_yacc.proofs.items.items.read_or_stopped.Given as goal

abbrev pub invariant-loop-marks : goal.invariant-loop-marks
invariant-loop-marks l =
    (l.text ≡ l.bytes) × (items : List Placed) × HasRead l.bytes items (record { at = l.from; marks = l.marks })

abbrev pub decreases-loop-marks : goal.decreases-loop-marks
decreases-loop-marks l = length l.bytes - l.from
