use Rattle.cs_pairs.specs.Kinds.Lefts.{HasNoLefts}
use Rattle.cs_pairs.proofs.kinds.lefts.no_lefts.Given as goal

abbrev pub invariant-loop : goal.invariant-loop
invariant-loop l = HasNoLefts l.counter l.lefts.items
