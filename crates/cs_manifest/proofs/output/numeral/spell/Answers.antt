-- A number has at least one digit.
use Rattle.std.proofs.Common.{◌∙◌, ap, arith, length}
use Rattle.std.proofs.lemmas.Fmt.{decimal_nonempty}
use Rattle.cs_manifest.proofs.output.numeral.spell.Goals as goal

pub returns-clause-some : goal.returns-clause-some
returns-clause-some c =
    omega (arith, decimal_nonempty c.args.number c.ranges.number.fits, ap length (c.as_bytes-text.ensures.value ∙ c.format.ensures.text))
