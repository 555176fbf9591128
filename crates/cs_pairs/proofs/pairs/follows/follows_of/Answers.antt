-- The least way inwards and the first token cost what the pair costs, and the way begins where they meet.
use Rattle.std.proofs.Common.{◌≡◌, ◌+◌, ◌<◌, List, length, sym, ap, ◌∙◌, subst, arith}
use Rattle.std.specs.Prelude.{All}
use Rattle.cs_grammar.specs.declared.symbol.Mark.TheVariants.{Token}
use Rattle.cs_grammar.specs.Grammar.{PlainGrammar, IsNumberOf}
use Rattle.cs_grammar.specs.Weights.{Measure}
use Rattle.cs_grammar.specs.Tree.{size}
use Rattle.cs_least.specs.Cost.Least.{IsCost}
use Rattle.cs_least.proofs.OnCost.Ranks.{cost_capped}
use Rattle.cs_least.proofs.OnEmbed.Told.{told_ways}
use Rattle.cs_least.specs.declared.ways.step.Source.{Source}
use Rattle.cs_least.specs.Ways.Ways.{Net, IsNode, AreLeastWays, IsReach}
use Rattle.cs_pairs.proofs.OnKinds.Filling.{filled_more, filled_all}
use Rattle.cs_pairs.specs.declared.pairs.meeting.Meeting.{Meeting}
use Rattle.cs_pairs.specs.Pairs.Pairs.{HasPair, ArePairs}
use Rattle.cs_pairs.specs.Pairs.Meetings.{origin_in, TellsMeeting, TellMeetings}
use Rattle.cs_pairs.proofs.OnPairs.FollowLists.{tell_more, told_at}
use Rattle.cs_pairs.proofs.OnPairs.Inwards.{pair_exact, meeting_told}
use Rattle.cs_pairs.proofs.OnPairs.SourceLists.{sources_nodes, sources_few}
use Rattle.cs_pairs.proofs.pairs.follows.follows_of.Goals as goal
use Rattle.cs_pairs.proofs.pairs.follows.follows_of.Goals.{After-index-reach}

-- the place is that of a token
within : (c : After-index-reach) → c.loop-place.place < c.args.kinds.now.grammar.tokens
within c = omega (arith, c.loop-place-test.true, c.tokens-place-end.ensures, ap (λ (m : PlainGrammar). m.tokens) c.grammar.ensures)

-- and what is read there is told of the token's node
told : (c : After-index-reach) → IsReach c.args.kinds.now.weights.limit c.args.steps.now c.in_ok-sources.sources.list.items (c.loop-place.place + 1) c.index-reach.result.now
told c =
    let w = c.args.kinds.now.weights in
    let net = c.args.steps.now in
    let i = c.loop-place.place in
    let sources = c.in_ok-sources.sources.list.items in
    let table = c.in_ok-table.table.items in
    let reach = c.index-reach.result.now in
    let limit = c.limit.ensures.limit ∙ ap (λ (m : Measure). m.limit) c.weights.ensures.weights in
    let least = subst (λ (l : List Source). AreLeastWays w.limit net l table) c.deref.ensures.value (subst (λ n. AreLeastWays n net c.deref.result.now table) limit c.in_ok-table.ensures) in
    let nodes = ap (λ (n : Net). n.nodes) c.requires.steps.is_turned ∙ c.requires.steps.nodes in
    subst (IsReach w.limit net sources (i + 1)) (sym c.index-reach.ensures) (told_at w.limit net sources table least i reach (omega (arith, within c, nodes)))

pub least_ways-requires-clause-sources : goal.least_ways-requires-clause-sources
least_ways-requires-clause-sources c =
    let v = c.args.kinds.now in
    let are = c.in_ok-sources.ensures in
    let nodes = ap (λ (n : Net). n.nodes) c.requires.steps.is_turned ∙ c.requires.steps.nodes in
    subst (λ (l : List Source). All (λ (s : Source). IsNode c.args.steps.now.nodes s.node) l) (sym c.deref.ensures.value)
    (sources_nodes v.weights v.grammar c.args.second c.weights.ensures.weighs.grammar 1 0 _ _ are c.args.steps.now.nodes nodes)

pub least_ways-requires-clause-few : goal.least_ways-requires-clause-few
least_ways-requires-clause-few c =
    let v = c.args.kinds.now in
    omega (arith, sources_few v.weights v.grammar c.args.second c.weights.ensures.weighs.grammar 1 0 _ _ c.in_ok-sources.ensures, ap (λ (l : List Source). length l) c.deref.ensures.value)

pub pair_cost-requires-clause-reach : goal.pair_cost-requires-clause-reach
pair_cost-requires-clause-reach c = cost_capped _ _ _ _ (told_ways c.args.kinds.now.weights.limit c.args.steps.now c.in_ok-sources.sources.list.items _ _ (told (goal.at.pair_cost-requires-clause-reach c).After-index-reach))

pub loop-place-preserved : goal.loop-place-preserved
loop-place-preserved c =
    let at = (goal.at.loop-place-preserved c).After-index-reach in
    let w = c.args.kinds.now.weights in
    let g = c.args.kinds.now.grammar in
    let b = c.args.second in
    let net = c.args.steps.now in
    let i = c.loop-place.place in
    let sources = c.in_ok-sources.sources.list.items in
    let reach = c.index-reach.result.now in
    let grammar = c.weights.ensures.weighs.grammar in
    let places = c.in_ok-sources.sources.places.items in
    let are = c.in_ok-sources.ensures in
    let fits : IsNumberOf g.tokens (i + 1) = (omega arith, omega (arith, within at)) in
    let cost = pair_exact w g grammar net c.requires.steps b places sources are (i + 1) fits reach (told at) in
    let origin = c.origin_in.ensures ∙ ap (λ (l : List Meeting). origin_in l reach) c.deref-in-loop-place.ensures.value in
    let meeting = meeting_told w g grammar net c.requires.steps b places sources are (i + 1) fits reach (told at) in
    record {
      costs = rw c.in_ok-push.ensures.items (filled_more w.limit (λ a. HasPair g (Token a) (Token b)) (size w) i _ _ c.loop-place.invariant.costs
          (subst (IsCost w.limit (HasPair g (Token (i + 1)) (Token b)) (size w)) (sym c.pair_cost.ensures) cost));
      meetings = rw c.in_ok-push-2.ensures.items (tell_more w g b i _ _ c.loop-place.invariant.meetings (subst (TellsMeeting w g (i + 1) b) (sym origin) meeting));
    }

pub returns : goal.returns
returns c =
    let w = c.args.kinds.now.weights in
    let g = c.args.kinds.now.grammar in
    let b = c.args.second in
    let end = c.tokens-place-end.ensures ∙ ap (λ (m : PlainGrammar). m.tokens) c.grammar.ensures in
    let at : c.loop-place.place ≡ g.tokens = omega (arith, end, c.loop-place-test.false, c.loop-place.auto.place-end) in (
      subst (ArePairs w g b) (sym c.new.ensures) (filled_all w.limit (λ a. HasPair g (Token a) (Token b)) (size w) _ _ _ _ c.loop-place.invariant.costs c.loop-place-test.false end c.loop-place.auto.place-end),
      subst (TellMeetings w g b g.tokens) (sym c.new-2.ensures) (subst (λ n. TellMeetings w g b n c.loop-place.meetings.items) at c.loop-place.invariant.meetings),
    )
