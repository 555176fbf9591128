-- An edit that makes no poisoned pair is passed over.
use Rattle.std.proofs.lemmas.Option.{MatchOption-at_none}
use Rattle.cs_mutate.proofs.Searching.{passed_more, passed_all}
use Rattle.cs_mutate.proofs.negative.next_touched.Goals as goal

pub loop-edit-preserved : goal.loop-edit-preserved
loop-edit-preserved c =
    passed_more c.args.pairs.now.grammar c.args.base.now c.args.edits.now c.loop-edit.edits c.next.new.self c.in-Some.edit c.in-Some.ensures.some c.loop-edit.invariant
    (MatchOption-at_none _ _ c.in_default-poison_touched.is c.poison_touched.ensures)

pub returns : goal.returns
returns c =
    let none = c.in_default.ensures.none in
    (passed_all c.args.pairs.now.grammar c.args.base.now c.args.edits.now c.loop-edit.edits none.0 c.loop-edit.invariant, none.1)
