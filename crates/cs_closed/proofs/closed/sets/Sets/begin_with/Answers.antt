-- The token begins the first symbol, or that may be empty and the token begins the rest.
use Rattle.std.proofs.Common.{◌+◌, refl, ⊎_elim, inr}
use Rattle.cs_closed.proofs.OnClosed.Steps.{first_step}
use Rattle.cs_closed.proofs.closed.sets.Sets.begin_with.Goals as goal

pub returns-then-not-is_empty : goal.returns-then-not-is_empty
returns-then-not-is_empty c =
    let step = first_step c.args.self.now c.args.symbols.now (c.loop-symbol.symbol-index + 1) c.loop-symbol.symbol-index refl c.loop-symbol-test.true c.args.token in (
      λ is. absurd cc,
      λ h. absurd (⊎_elim (λ here. absurd (let is = c.begins.ensures.1 here in let other = c.if-begins.false in cc)) (λ later. absurd (let is = c.is_empty.ensures.1 later.0 in let other = c.if-not-is_empty.true in cc)) (step.0 (c.loop-symbol.invariant.0 h))),
    )

pub loop-symbol-preserved : goal.loop-symbol-preserved
loop-symbol-preserved c =
    let step = first_step c.args.self.now c.args.symbols.now (c.loop-symbol.symbol-index + 1) c.loop-symbol.symbol-index refl c.loop-symbol-test.true c.args.token in (
      λ h. ⊎_elim (λ here. absurd (let is = c.begins.ensures.1 here in let other = c.if-begins.false in cc)) (λ later. later.1) (step.0 (c.loop-symbol.invariant.0 h)),
      λ h. c.loop-symbol.invariant.1 (step.1 (inr (c.is_empty.ensures.0 c.if-not-is_empty.false, h))),
    )
