use Rattle.std.proofs.Common.{◌≡◌, ◌+◌, ◌-◌, ◌≤◌, length, drop}
use Rattle.cs_lex.specs.Layout.Lines.{option_size}
use Rattle.cs_lex.specs.Layout.Steps.{Walk, Spans, HasSize}
use Rattle.cs_lex.proofs.layout.forms.options_len.Given as goal

abbrev pub invariant-loop-size : goal.invariant-loop-size
invariant-loop-size l = record {
  units : Walk (Spans (HasSize option_size) l.line) 0 l.at;
  is : l.size ≡ option_size (drop l.at l.line);
  within : l.at + l.size ≤ length l.line;
}

abbrev pub decreases-loop-size : goal.decreases-loop-size
decreases-loop-size l = length l.line - l.at
