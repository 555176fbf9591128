-- The token ends the last symbol, or that may be empty and the token ends those before it.
use Rattle.std.proofs.Common.{◌-◌, ⊎_elim, inr, arith}
use Rattle.cs_closed.proofs.OnClosed.Steps.{last_step}
use Rattle.cs_closed.proofs.closed.sets.Sets.end_with.Goals as goal

pub returns-then-not-is_empty : goal.returns-then-not-is_empty
returns-then-not-is_empty c =
    let step = last_step c.args.self.now c.args.symbols.now c.loop-place.place (c.loop-place.place - 1) (omega arith) (omega arith) c.args.token in (
      λ is. absurd cc,
      λ h. absurd (⊎_elim (λ here. absurd (let is = c.ends.ensures.1 here in let other = c.if-ends.false in cc)) (λ later. absurd (let is = c.is_empty.ensures.1 later.0 in let other = c.if-not-is_empty.true in cc)) (step.0 (c.loop-place.invariant.0 h))),
    )

pub loop-place-preserved : goal.loop-place-preserved
loop-place-preserved c =
    let step = last_step c.args.self.now c.args.symbols.now c.loop-place.place (c.loop-place.place - 1) (omega arith) (omega arith) c.args.token in (
      λ h. ⊎_elim (λ here. absurd (let is = c.ends.ensures.1 here in let other = c.if-ends.false in cc)) (λ later. later.1) (step.0 (c.loop-place.invariant.0 h)),
      λ h. c.loop-place.invariant.1 (step.1 (inr (c.is_empty.ensures.0 c.if-not-is_empty.false, h))),
    )
