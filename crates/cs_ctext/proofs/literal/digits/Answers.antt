-- The digits taken are those of the run, up to the most; their number is its value.
use Rattle.std.proofs.Common.{ap, ◌∙◌, min}
use Rattle.cs_ctext.proofs.FewDigits.{digits_found}
use Rattle.cs_ctext.proofs.literal.digits.Goals as goal

pub returns-clause-value : goal.returns-clause-value
returns-clause-value c =
    digits_found _ c.args.base c.args.most c.min-size.result c.number.result c.args.text.now c.requires.base c.requires.few
    (c.min-size.ensures ∙ ap (λ n. min n c.args.most) c.run_len.ensures.len) c.if-size-eq0.false c.number.ensures
