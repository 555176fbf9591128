use Rattle.std.proofs.Common.{◌≡◌}
use Rattle.test_verdicts.proofs.trees.mutate.keep.Given as goal

abbrev pub invariant-loop : goal.invariant-loop
invariant-loop g l = (l.negatives.grammar.tokens ≡ l.keeper.tokens) × (l.keeper.tokens ≡ l.fn.keeper.tokens)
