use Rattle.std.proofs.Common.{◌≡◌, ◌+◌, ◌*◌, ◌<◌, ◌≤◌, ℕ, length}
use Rattle.std.specs.Prelude.{Some, slice_get}
use Rattle.cs_grammar.specs.Grammar.{Production}
use Rattle.cs_member.proofs.tables.tables.bases_of.Given as goal

abbrev pub invariant-loop-rule : goal.invariant-loop-rule
invariant-loop-rule l = record {
  each : length l.bases.items ≡ l.rule-index;
  low : l.items ≤ 129 * l.rule-index;
  room : (k : ℕ) (p : Production) (base : ℕ) → k < l.rule-index → slice_get l.grammar.rules k ≡ Some p → slice_get l.bases.items k ≡ Some base → base + length p.right < l.items;
}
