-- The first line, a rule for each of the 24 tokens, and the last line.
use Rattle.std.proofs.Common.{◌≡◌, arith}
use Rattle.cs_gen.proofs.Drawing.{lex-written}
use Rattle.cs_gen.proofs.lex.lex_text.Goals as goal

pub returns : goal.returns
returns c =
    let ended : c.loop-number.number ≡ 24 = omega (arith, c.loop-number-test.false, c.loop-number.auto.number-end) in
    lex-written _ _ _ _ ended c.in_ok-text.ensures.items c.loop-number.invariant c.in_ok-extend_from_slice.ensures.items
