use Rattle.std.proofs.Common.{◌≡◌, ◌+◌, ◌-◌, ◌≤◌, length, drop}
use Rattle.cs_lex.specs.Layout.Patterns.{quoted_unit_size}
use Rattle.cs_lex.specs.Layout.Steps.{Walk, Spans, HasSize}
use Rattle.cs_lex.proofs.layout.quoted.quoted_len.Given as goal

abbrev pub invariant-loop-size : goal.invariant-loop-size
invariant-loop-size l = record {
  units : Walk (Spans (HasSize quoted_unit_size) l.text) 0 l.at;
  is : l.size ≡ quoted_unit_size (drop l.at l.text);
  within : l.at + l.size ≤ length l.text;
}

abbrev pub decreases-loop-size : goal.decreases-loop-size
decreases-loop-size l = length l.text - l.at
