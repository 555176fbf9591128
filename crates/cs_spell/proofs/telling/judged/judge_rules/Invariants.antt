use Rattle.std.proofs.Common.{◌≡◌, ℕ, suc, Some, length}
use Rattle.std.specs.Prelude.{slice_get}
use Rattle.cs_spell.specs.Telling.Chosen.{IsRuleVerdict, RuleVerdict}
use Rattle.cs_spell.proofs.telling.judged.judge_rules.Given as goal

abbrev pub invariant-loop-place : goal.invariant-loop-place
invariant-loop-place l = record {
  all : length l.judged.items ≡ l.place;
  each : (k : ℕ) (j : RuleVerdict) → slice_get l.judged.items k ≡ Some j → IsRuleVerdict l.embeds (suc k) j;
}
