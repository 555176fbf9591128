use Rattle.std.proofs.Common.{◌≡◌, ◌<◌, ℕ}
use Rattle.std.specs.Prelude.{Some, slice_get}
use Rattle.cs_member.specs.declared.chart.now.Span.{Span}
use Rattle.cs_member.proofs.membership.membership.find_span.Given as goal

abbrev pub invariant-loop-number : goal.invariant-loop-number
invariant-loop-number l = (n : ℕ) (s : Span) → n < l.number → slice_get l.spans n ≡ Some s → s.nonterminal ≡ l.nonterminal → s.from ≡ 0 → ⊥
