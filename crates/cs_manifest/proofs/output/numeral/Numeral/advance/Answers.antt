-- A last digit below nine is raised by one; where it is nine, the whole number is spelled again.
use Rattle.std.proofs.Common.{◌≡◌, arith, length}
use Rattle.cs_manifest.proofs.OnOutput.Numerals.{raised}
use Rattle.cs_manifest.proofs.output.numeral.Numeral.advance.Goals as goal

pub invariant_of-self : goal.invariant_of-self
invariant_of-self c =
    let number = c.self.inside in
    let long : length number.digits ≡ 32 = grind arith in
    (raised number.number number.len number.digits (grind arith) (omega (arith, long, c.self.invariant.2)) c.self.invariant.0 (grind arith), c.self.invariant.1, c.self.invariant.2)

pub invariant_of-self-else-self-last-lt57 : goal.invariant_of-self-else-self-last-lt57
invariant_of-self-else-self-last-lt57 c = (c.spell-self-inside.ensures.digits, c.spell-self-inside.ensures.some, c.spell-self-inside.ensures.short)
