use Rattle.std.proofs.Common.{◌≤◌, ◌-◌, length, drop}
use Rattle.cs_words.proofs.Spellings.{Reads}
use Rattle.cs_words.proofs.values.read_separator.Given as goal

abbrev pub invariant-loop-at : goal.invariant-loop-at
invariant-loop-at l = record {
  within : l.at ≤ length l.value;
  few : length l.separator ≤ 64;
  reads : Reads l.value l.separator (drop l.at l.value);
}

abbrev pub decreases-loop-at : goal.decreases-loop-at
decreases-loop-at l = length l.value - l.at
