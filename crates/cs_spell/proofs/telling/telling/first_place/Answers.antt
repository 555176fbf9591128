-- The token stands at none of the places before, and at this one or at none.
use Rattle.std.proofs.Common.{arith, below_more, ap, ◌∙◌, Some}
use Rattle.std.proofs.lemmas.Option.{get_or_from_slice_get, slice_get-get_or, slice_get_within}
use Rattle.cs_spell.proofs.telling.telling.first_place.Goals as goal

pub loop-place-preserved : goal.loop-place-preserved
loop-place-preserved c = below_more _ _ c.loop-place.invariant (λ at. c.if-tokens-place.false (get_or_from_slice_get c.args.tokens.now c.loop-place.place c.args.token 0 at))

pub returns-then-tokens-place : goal.returns-then-tokens-place
returns-then-tokens-place c = record {
  within = omega arith;
  at = λ less. slice_get-get_or c.args.tokens.now c.loop-place.place 0 less ∙ ap Some c.if-tokens-place.true;
  first = c.loop-place.invariant;
}

pub returns : goal.returns
returns c = record {
  within = omega arith;
  at = λ less. absurd (omega (arith, less));
  first = λ k less at. c.loop-place.invariant k (omega (arith, slice_get_within c.args.tokens.now k c.args.token at)) at;
}
