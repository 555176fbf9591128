-- One pair more at each token, and at last the pair with the end.
use Rattle.std.proofs.Common.{get_or}
use Rattle.std.proofs.lemmas.List.{drop_all, drop_more}
use Rattle.cs_verdicts.proofs.OnCases.Inside.{pairs_all, pairs_next}
use Rattle.cs_verdicts.proofs.OnCases.Placed.{OnOk_then}
use Rattle.cs_verdicts.proofs.cases.met.add_pairs_after.Goals as goal

pub loop-right-preserved : goal.loop-right-preserved
loop-right-preserved c =
    let tokens = c.args.tokens.now in
    let at = c.loop-right.right-index in
    pairs_next c.args.first tokens c.args.case c.args.firsts.now c.loop-right.left at c.loop-right.firsts c.add_pair.new.self c.loop-right.invariant (get_or tokens at 0) (drop_more tokens at 0 c.loop-right-test.true) c.in_ok-add_pair.ensures.added

pub returns-clause-added : goal.returns-clause-added
returns-clause-added c =
    let tokens = c.args.tokens.now in
    let at = c.loop-right.right-index in
    OnOk_then c.add_pair-2.result (λ added. pairs_all c.args.first tokens c.args.case c.args.firsts.now c.loop-right.left at c.loop-right.firsts c.add_pair-2.new.self c.loop-right.invariant (drop_all at tokens c.loop-right-test.false) added) c.add_pair-2.ensures.added
