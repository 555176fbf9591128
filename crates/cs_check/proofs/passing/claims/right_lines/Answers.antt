-- A piece of a text says one line at most, and that line is right where the piece has no fault.
use Rattle.cs_lines.specs.Lines.Pieces.{lines_of}
use Rattle.cs_check.proofs.OnPassing.Lines.{one_list, right_pass, pass_right}
use Rattle.cs_check.proofs.passing.claims.right_lines.Goals as goal

pub returns-clause-one : goal.returns-clause-one
returns-clause-one c text lines others = one_list (lines_of text) lines others

pub returns-clause-pass : goal.returns-clause-pass
returns-clause-pass c k text lines = right_pass k text lines

pub returns-clause-right : goal.returns-clause-right
returns-clause-right c k text = pass_right k text
