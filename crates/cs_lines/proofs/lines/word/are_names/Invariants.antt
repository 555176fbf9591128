use Rattle.std.proofs.Common.{◌↔◌, length}
use Rattle.std.specs.Prelude.{All}
use Rattle.cs_lines.specs.Words.Words.{IsWord}
use Rattle.cs_lines.specs.Lines.Splits.{split}
use Rattle.cs_lines.proofs.OnLines.Visible.{AreLeft}
use Rattle.cs_lines.proofs.lines.word.are_names.Given as goal

abbrev pub invariant-loop-left : goal.invariant-loop-left
invariant-loop-left l = AreLeft l.is_due (split l.left) ↔ All IsWord (split l.text)

abbrev pub decreases-loop-left : goal.decreases-loop-left
decreases-loop-left l = length l.left
