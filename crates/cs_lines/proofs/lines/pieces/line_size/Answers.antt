-- The line ends with the first newline, or with the text where there is none.
use Rattle.std.proofs.Common.{arith}
use Rattle.cs_lines.proofs.OnPieces.{len_found, len_none}
use Rattle.cs_lines.proofs.lines.pieces.line_size.Goals as goal

pub returns-in-Some-clause-size : goal.returns-in-Some-clause-size
returns-in-Some-clause-size c =
    let first = c.in-Some.ensures in
    let len = len_found c.args.text.now c.in-Some.place first.0 first.1 in
    omega (arith, len, first.0.high)

pub returns-in-None-clause-size : goal.returns-in-None-clause-size
returns-in-None-clause-size c =
    let len = len_none c.args.text.now c.in-None.ensures in
    omega (arith, len)
