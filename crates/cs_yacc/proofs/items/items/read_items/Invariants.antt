use Rattle.std.proofs.Common.{◌≡◌, length, ◌-◌}
use Rattle.cs_yacc.specs.Items.Views.{placed_all}
use Rattle.cs_yacc.proofs.OnItems.Reading.{HasRead}
use Rattle.cs_yacc.proofs.items.items.read_items.Given as goal

abbrev pub invariant-loop-marks : goal.invariant-loop-marks
invariant-loop-marks l =
    (l.text ≡ l.bytes) × HasRead l.bytes (placed_all l.items.items) (record { at = l.from; marks = l.marks })

abbrev pub decreases-loop-marks : goal.decreases-loop-marks
decreases-loop-marks l = length l.bytes - l.from
