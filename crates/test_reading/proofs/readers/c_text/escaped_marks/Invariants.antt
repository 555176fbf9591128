use Rattle.std.proofs.Common.{length, ◌-◌}
use Rattle.test_reading.proofs.readers.c_text.escaped_marks.Given as goal

abbrev pub decreases-loop-at : goal.decreases-loop-at
decreases-loop-at l = length l.text - l.at
