-- One second token more has its row of costs and its row of meetings.
use Rattle.std.proofs.Common.{◌≡◌, List, Option, sym, ap, ◌∙◌, subst, arith}
use Rattle.cs_grammar.specs.Grammar.{PlainGrammar}
use Rattle.cs_least.specs.declared.cost.cost.Cost.{Cost}
use Rattle.cs_pairs.specs.declared.pairs.meeting.Meeting.{Meeting}
use Rattle.cs_pairs.specs.Pairs.Pairs.{ArePairRows}
use Rattle.cs_pairs.specs.Pairs.Meetings.{AreMeetingRows}
use Rattle.cs_pairs.proofs.OnPairs.FollowLists.{rows_none, meeting_rows_more, pairs_none, pair_rows_more}
use Rattle.cs_pairs.proofs.pairs.follows.follow_rows.Goals as goal

pub loop-place-init : goal.loop-place-init
loop-place-init c =
    let w = c.args.kinds.now.weights in
    let g = c.args.kinds.now.grammar in
    record {
      costs = subst (λ (l : List (List Cost)). ArePairRows w g 0 l) (sym c.new.ensures.items) (pairs_none w g);
      meetings = subst (λ (l : List (List (Option Meeting))). AreMeetingRows w g 0 l) (sym c.new-2.ensures.items) (rows_none w g);
    }

pub loop-place-preserved : goal.loop-place-preserved
loop-place-preserved c =
    let w = c.args.kinds.now.weights in
    let g = c.args.kinds.now.grammar in
    let n = c.loop-place.place in
    record {
      costs = rw c.in_ok-push.ensures.items (pair_rows_more w g n _ _ c.loop-place.invariant.costs c.in_ok-follows.ensures.0);
      meetings = rw c.in_ok-push-2.ensures.items (meeting_rows_more w g n _ _ c.loop-place.invariant.meetings c.in_ok-follows.ensures.1);
    }

pub returns : goal.returns
returns c =
    let w = c.args.kinds.now.weights in
    let g = c.args.kinds.now.grammar in
    let end = c.tokens-place-end.ensures ∙ ap (λ (m : PlainGrammar). m.tokens) c.grammar.ensures in
    let at : c.loop-place.place ≡ g.tokens = omega (arith, end, c.loop-place-test.false, c.loop-place.auto.place-end) in (
      subst (λ n. ArePairRows w g n c.loop-place.rows.costs.items) at c.loop-place.invariant.costs,
      subst (λ n. AreMeetingRows w g n c.loop-place.rows.meetings.items) at c.loop-place.invariant.meetings,
    )
