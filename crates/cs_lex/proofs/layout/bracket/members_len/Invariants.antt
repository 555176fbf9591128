use Rattle.std.proofs.Common.{◌≡◌, ◌+◌, ◌-◌, ◌≤◌, length, drop}
use Rattle.cs_bytes.specs.Classes.{is_inner}
use Rattle.cs_bytes.specs.Places.{run_end}
use Rattle.cs_lex.specs.Layout.Patterns.{member_size}
use Rattle.cs_lex.specs.Layout.Steps.{Walk, Spans, HasSize}
use Rattle.cs_lex.proofs.layout.bracket.members_len.Given as goal

abbrev pub invariant-loop-size : goal.invariant-loop-size
invariant-loop-size l = record {
  units : Walk (Spans (HasSize member_size) l.text) 0 l.at;
  end : l.end ≡ run_end is_inner l.text (l.at + 2);
  is : l.size ≡ member_size (drop l.at l.text);
  within : l.at + l.size ≤ length l.text;
}

abbrev pub decreases-loop-size : goal.decreases-loop-size
decreases-loop-size l = length l.text - l.at
