-- The construct is as long as its size tells; where there is no size, nothing closes it.
use Rattle.std.proofs.Common.{sym, ◌∙◌}
use Rattle.cs_ctext.proofs.Fronts.{behind}
use Rattle.cs_ctext.proofs.QuotedSizes.{IsQuoted-from_size, no_quoted_from_size}
use Rattle.cs_ctext.proofs.c_text.CText.skip_quoted.Goals as goal

pub returns-in_err-size-clause-unclosed : goal.returns-in_err-size-clause-unclosed
returns-in_err-size-clause-unclosed c =
    rw c.from_residual.ensures (no_quoted_from_size _ (sym c.quoted_size.ensures.size ∙ c.in_err-size.was))

pub returns-clause-closed : goal.returns-clause-closed
returns-clause-closed c =
    rw behind (IsQuoted-from_size _ _ (sym c.quoted_size.ensures.size ∙ c.in_ok-size.was))
