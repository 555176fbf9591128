use Rattle.std.proofs.Common.{length, ◌-◌, ◌≤◌}
use Rattle.cs_pattern_parts.specs.Items.Views.{placed_all}
use Rattle.cs_pattern.proofs.OnText.Readings.{HasRead}
use Rattle.cs_pattern.proofs.text.reading.items.Given as goal

abbrev pub invariant-loop-at : goal.invariant-loop-at
invariant-loop-at l = record { so_far : HasRead l.bytes (placed_all l.items.items) l.at l.place; few : length l.items.items ≤ l.at }

abbrev pub decreases-loop-at : goal.decreases-loop-at
decreases-loop-at l = length l.bytes - l.at
