use Rattle.std.proofs.Common.{ℕ, ◌<◌}
use Rattle.cs_spell.specs.Telling.Choosing.{IsLargeAt}
use Rattle.cs_spell.proofs.telling.choosing.has_large.Given as goal

abbrev pub invariant-loop-place : goal.invariant-loop-place
invariant-loop-place l = (place : ℕ) → place < l.place → IsLargeAt l.grammar l.judged l.wanted place → ⊥
