-- A list with a poisoned pair is no sentence.
use Rattle.cs_mutate.proofs.Marks.{outside}
use Rattle.cs_mutate.proofs.poisoning.poison.Goals as goal

pub returns-in-Some-clause-outside : goal.returns-in-Some-clause-outside
returns-in-Some-clause-outside c =
    let found = c.in-Some.found in
    outside c.args.pairs.now.grammar c.args.list.now found.at (found.left, found.right, c.in-Some.ensures)
