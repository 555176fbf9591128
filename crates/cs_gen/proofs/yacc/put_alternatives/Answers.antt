-- One alternative more, until there are as many as were drawn.
use Rattle.std.proofs.Common.{◌≡◌, ◌∙◌, refl, arith}
use Rattle.cs_gen.specs.Rules.{body}
use Rattle.cs_gen.specs.Texts.{alternative}
use Rattle.cs_gen.proofs.Drawing.{written-none, written-more, behind-none, behind-more, alternative-written, bodies-written, bodies-behind}
use Rattle.cs_gen.proofs.yacc.put_alternatives.Goals as goal

pub loop-body-init : goal.loop-body-init
loop-body-init c = (written-none alternative (λ _. body) _ _, behind-none (λ _. body) _)

pub loop-body-preserved : goal.loop-body-preserved
loop-body-preserved c = (
  written-more alternative (λ _. body) _ _ _ _ _ _ _ c.loop-body.invariant.0 c.loop-body.invariant.1 refl (alternative-written _ _ _ _ c.in_ok-extend_from_slice.ensures.items c.in_ok-put_body.ensures.text),
  behind-more (λ _. body) _ _ _ _ c.loop-body.invariant.1 c.in_ok-put_body.ensures.numbers,
)

pub returns-clause-text : goal.returns-clause-text
returns-clause-text c =
    let ended : c.loop-body._body ≡ c.one_of-count.result = omega (arith, c.loop-body-test.false, c.loop-body.auto._body-end) in
    bodies-written _ _ _ _ _ (ended ∙ c.one_of-count.ensures.what) c.one_of-count.ensures.behind c.loop-body.invariant.0

pub returns-clause-numbers : goal.returns-clause-numbers
returns-clause-numbers c =
    let ended : c.loop-body._body ≡ c.one_of-count.result = omega (arith, c.loop-body-test.false, c.loop-body.auto._body-end) in
    bodies-behind _ _ _ _ (ended ∙ c.one_of-count.ensures.what) c.one_of-count.ensures.behind c.loop-body.invariant.1
