use Rattle.std.proofs.Common.{◌≡◌, ℕ, ◌+◌, ◌<◌, Some}
use Rattle.std.specs.Prelude.{slice_get}
use Rattle.cs_grammar.specs.Sentence.{framed}
use Rattle.cs_check.proofs.checking.framed.has_pair.Given as goal

abbrev pub invariant-loop-at : goal.invariant-loop-at
invariant-loop-at l =
    (k : ℕ) → k < l.at → slice_get (framed l.tokens) k ≡ Some l.left → slice_get (framed l.tokens) (k + 1) ≡ Some l.right → ⊥
