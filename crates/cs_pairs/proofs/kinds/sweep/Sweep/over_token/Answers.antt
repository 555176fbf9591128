-- Behind the first token itself anything may stand, and a list with another in front doesn't begin with it.
use Rattle.cs_pairs.proofs.OnKinds.Sweeping.{swept_first, swept_other}
use Rattle.cs_pairs.proofs.kinds.sweep.Sweep.over_token.Goals as goal

pub returns-then-token-first-clause-swept : goal.returns-then-token-first-clause-swept
returns-then-token-first-clause-swept c = λ xs swept.
    swept_first c.args.kinds.now.weights c.args.kinds.now.grammar c.args.self c.args.first c.args.token xs c.told.result c.plus-rest.result c.requires.kind c.told.ensures c.plus-rest.ensures swept c.if-token-first.true

pub returns-else-token-first-clause-swept : goal.returns-else-token-first-clause-swept
returns-else-token-first-clause-swept c = λ xs swept.
    swept_other c.args.kinds.now.weights c.args.kinds.now.grammar c.args.self c.args.first c.args.token xs c.told.result c.plus-rest.result c.requires.kind c.told.ensures c.plus-rest.ensures swept c.if-token-first.false
