-- The declaration, and then one line more, until there are 40.
use Rattle.std.proofs.Common.{◌≡◌, ◌++◌, List, ℕ, ap, ◌∙◌, refl, arith}
use Rattle.cs_gen.specs.Rules.{line}
use Rattle.cs_gen.specs.Texts.{declaration, line_text}
use Rattle.cs_gen.proofs.Drawing.{written-none, written-more, behind-none, behind-more, yacc-written}
use Rattle.cs_gen.proofs.yacc.yacc_text.Goals as goal

pub loop-number-init : goal.loop-number-init
loop-number-init c = (written-none line_text line _ _, c.new-numbers.ensures ∙ behind-none line _)

pub loop-number-preserved : goal.loop-number-preserved
loop-number-preserved c = (
  written-more line_text line _ _ _ _ _ _ _ c.loop-number.invariant.0 c.loop-number.invariant.1 refl c.in_ok-put_line.ensures.text,
  behind-more line _ _ _ _ c.loop-number.invariant.1 c.in_ok-put_line.ensures.numbers,
)

pub returns : goal.returns
returns c =
    let ended : c.loop-number.number ≡ 40 = omega (arith, c.loop-number-test.false, c.loop-number.auto.number-end) in
    yacc-written _ _ _ _ ended (c.in_ok-put_declaration.ensures ∙ ap (λ (t : List ℕ). t ++ declaration) c.new-text.ensures.items) c.loop-number.invariant.0
