use Rattle.cs_pairs.specs.Kinds.Lefts.{AreLeftsTo}
use Rattle.cs_pairs.proofs.kinds.lefts.lefts_of.Given as goal

abbrev pub invariant-loop-place : goal.invariant-loop-place
invariant-loop-place l = AreLeftsTo l.grammar l.place l.lefts.items
