use Rattle.std.proofs.Common.{◌-◌, ◌≤◌, length}
use Rattle.cs_lex.specs.Actions.Gaps.{AreSigns}
use Rattle.cs_lex.proofs.actions.sign.all_signs.Given as goal

abbrev pub invariant-loop-size : goal.invariant-loop-size
invariant-loop-size l = record {
  signs : AreSigns l.sign l.text l.count l.at;
  within : l.at ≤ length l.text;
  few : l.count ≤ l.at;
}

abbrev pub decreases-loop-size : goal.decreases-loop-size
decreases-loop-size l = length l.text - l.at
