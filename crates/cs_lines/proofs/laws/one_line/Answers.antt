-- Two lines that have the same bytes are the same line.
use Rattle.cs_lines.proofs.OnTexts.OneLine.{one_line}
use Rattle.cs_lines.proofs.laws.one_line.Goals as goal

pub returns : goal.returns
returns c bytes l k = one_line bytes l k
