-- The steps and the trees that are pending stay within the limit, so no code is left when the steps end.
use Rattle.std.proofs.Common.{[], inr, sym, subst, append-nil, ◌≤◌}
use Rattle.cs_least.proofs.OnCost.Written.{grown_more}
use Rattle.cs_pairs.proofs.OnKinds.Written.{writes_none, taken_fits, taken_small, writes_more, writes_all}
use Rattle.cs_pairs.proofs.kinds.writing.write_some.Goals as goal

pub loop-init : goal.loop-init
loop-init c = (writes_none c.args.kinds.now.weights c.args.kinds.now.grammar _ _ c.requires.0, ([], sym (append-nil c.args.into.now)))

pub take_on-requires-clause-part : goal.take_on-requires-clause-part
take_on-requires-clause-part c = taken_fits c.args.kinds.now.weights c.args.kinds.now.grammar _ _ _ _ _ _ _ c.in-Some.ensures.items c.loop.invariant.0

pub take_on-requires-clause-small : goal.take_on-requires-clause-small
take_on-requires-clause-small c =
    let f = c.requires.1 in
    taken_small c.args.kinds.now.weights c.args.kinds.now.grammar _ _ _ _ _ _ _ c.in-Some.ensures.items c.loop.invariant.0 f.0 f.1 f.2

pub loop-preserved : goal.loop-preserved
loop-preserved c = (
  writes_more c.args.kinds.now.weights c.args.kinds.now.grammar _ _ _ _ _ _ _ c.in-Some.ensures.items c.loop.invariant.0 _ _ c.in_ok-take_on.ensures.taken,
  grown_more c.args.into.now c.loop.into c.take_on.new.into c.loop.invariant.1 c.in_ok-take_on.ensures.grown,
)

pub returns-clause-written : goal.returns-clause-written
returns-clause-written c = λ f h small. writes_all c.args.kinds.now.weights c.args.kinds.now.grammar c.limit-limit.ensures.weighs.weights _ _ _ _ _ c.loop.invariant.0 (inr (subst (λ n. n ≤ c.loop.counter) c.limit-limit.ensures.limit c.loop-test.false)) f h small
