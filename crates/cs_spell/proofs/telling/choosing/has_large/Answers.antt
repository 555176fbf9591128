-- The first place with a large goal tells that there is one; past all places there is none.
use Rattle.std.proofs.Common.{◌≡◌, true, false, refl, arith, below_more}
use Rattle.cs_spell.proofs.OnTelling.Choosing.{large_at, large_none}
use Rattle.cs_spell.proofs.telling.choosing.has_large.Goals as goal

pub returns-then-is_large_at : goal.returns-then-is_large_at
returns-then-is_large_at c = (λ yes. large_at c.args.grammar.now c.args.judged.now c.args.wanted c.loop-place.place (c.if-is_large_at.ensures.0 refl), λ h. refl)

pub loop-place-preserved : goal.loop-place-preserved
loop-place-preserved c = below_more _ _ c.loop-place.invariant (λ is. let yes : false ≡ true = c.if-is_large_at.ensures.1 is in cc)

pub returns : goal.returns
returns c = (λ no. absurd (cc), λ h. absurd (large_none c.args.grammar.now c.args.judged.now c.args.wanted c.loop-place.place (omega arith) c.loop-place.invariant h))
