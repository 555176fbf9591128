-- The least tree of a pair with an end is a small tree of its kind, and the start symbol's.
use Rattle.cs_pairs.proofs.OnPairs.Derived.{first_small, last_small, none_small}
use Rattle.cs_pairs.proofs.pairs.pairs.Pairs.derive.Goals as goal

pub derive_whole-requires-clause-small : goal.derive_whole-requires-clause-small
derive_whole-requires-clause-small c = first_small c.args.self.now.weights c.args.self.now.grammar _ _ c.in-Begin-Token.second c.in-Begin-Token.is-0 c.in-Begin-Token.is-1 c.requires.least

pub derive_whole-requires-in-Begin-End-clause-small : goal.derive_whole-requires-in-Begin-End-clause-small
derive_whole-requires-in-Begin-End-clause-small c = none_small c.args.self.now.weights c.args.self.now.grammar _ _ c.in-Begin-End.is-0 c.in-Begin-End.is-1 c.requires.least

pub derive_whole-requires-in-Token-End-clause-small : goal.derive_whole-requires-in-Token-End-clause-small
derive_whole-requires-in-Token-End-clause-small c = last_small c.args.self.now.weights c.args.self.now.grammar _ _ c.in-Token-End.first c.in-Token-End.is-0 c.in-Token-End.is-1 c.requires.least
