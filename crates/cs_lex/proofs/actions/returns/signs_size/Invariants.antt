use Rattle.std.proofs.Common.{◌≤◌, length}
use Rattle.cs_lex.specs.Actions.Gaps.{AreSigns}
use Rattle.cs_lex.proofs.actions.returns.signs_size.Given as goal

abbrev pub invariant-loop-passed : goal.invariant-loop-passed
invariant-loop-passed l = record {
  signs : AreSigns l.sign l.text l.passed l.at;
  within : l.at ≤ length l.text;
}
