-- A plain byte stands for itself, and another is spelled by its two hexadecimal digits.
use Rattle.std.proofs.Common.{◌∙◌, sym}
use Rattle.cs_manifest.proofs.OnOutput.Pieces.{spelled}
use Rattle.cs_manifest.proofs.OnOutput.Runs.{other_literal, plain_literal}
use Rattle.cs_manifest.proofs.output.names.put_literal.Goals as goal

pub returns-then-is_plain_literal : goal.returns-then-is_plain_literal
returns-then-is_plain_literal g c = spelled _ (plain_literal c.args.byte (sym c.is_plain_literal.ensures ∙ c.if-is_plain_literal.true)) c.put.ensures

pub returns-else-is_plain_literal : goal.returns-else-is_plain_literal
returns-else-is_plain_literal g c =
    spelled _ (other_literal c.args.byte (sym c.is_plain_literal.ensures ∙ c.if-is_plain_literal.false) c.hexadecimal_digit-high.ensures c.hexadecimal_digit-low.ensures)
    c.put-else-is_plain_literal.ensures
