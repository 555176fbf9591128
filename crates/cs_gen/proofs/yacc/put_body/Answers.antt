-- One symbol more, until there are as many as were drawn.
use Rattle.std.proofs.Common.{◌≡◌, ◌∙◌, arith}
use Rattle.cs_gen.specs.Rules.{symbol}
use Rattle.cs_gen.specs.Texts.{spaced_name}
use Rattle.cs_gen.proofs.Drawing.{written-none, written-more, behind-none, behind-more, body-written, body-behind}
use Rattle.cs_gen.proofs.yacc.put_body.Goals as goal

pub loop-symbol-init : goal.loop-symbol-init
loop-symbol-init c = (written-none spaced_name (λ _. symbol) _ _, behind-none (λ _. symbol) _)

pub loop-symbol-preserved : goal.loop-symbol-preserved
loop-symbol-preserved c = (
  written-more spaced_name (λ _. symbol) _ _ _ _ _ _ _ c.loop-symbol.invariant.0 c.loop-symbol.invariant.1 c.symbol.ensures.what c.in_ok-put_spaced.ensures,
  behind-more (λ _. symbol) _ _ _ _ c.loop-symbol.invariant.1 c.symbol.ensures.behind,
)

pub returns-clause-text : goal.returns-clause-text
returns-clause-text c =
    let ended : c.loop-symbol._symbol ≡ c.draw-length.result = omega (arith, c.loop-symbol-test.false, c.loop-symbol.auto._symbol-end) in
    body-written _ _ _ _ _ (ended ∙ c.draw-length.ensures.what) c.draw-length.ensures.behind c.loop-symbol.invariant.0

pub returns-clause-numbers : goal.returns-clause-numbers
returns-clause-numbers c =
    let ended : c.loop-symbol._symbol ≡ c.draw-length.result = omega (arith, c.loop-symbol-test.false, c.loop-symbol.auto._symbol-end) in
    body-behind _ _ _ _ (ended ∙ c.draw-length.ensures.what) c.draw-length.ensures.behind c.loop-symbol.invariant.1
