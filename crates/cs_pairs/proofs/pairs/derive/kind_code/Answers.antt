-- The code of the list of one symbol is that of its one tree.
use Rattle.cs_pairs.proofs.OnPairs.Laying.{code_of_one, small_one}
use Rattle.cs_pairs.proofs.pairs.derive.kind_code.Goals as goal

pub kind_into-requires-clause-small : goal.kind_into-requires-clause-small
kind_into-requires-clause-small c = small_one c.args.kinds.now.weights c.args.kinds.now.grammar c.args.kind c.args.symbol c.requires.small

pub returns : goal.returns
returns c = code_of_one c.args.kinds.now.weights c.args.kinds.now.grammar c.args.kind c.args.symbol _ _ c.requires.small c.in_ok-derivation.ensures c.in_ok-kind_into.ensures.ok
