-- What one item more awaits is expected, and what was expected stays so.
use Rattle.std.proofs.Common.{[], List, subst, arith}
use Rattle.std.proofs.lemmas.List.{take_all}
use Rattle.std.proofs.lemmas.Option.{slice_get_within}
use Rattle.cs_member.specs.declared.chart.now.Origins.{Origins}
use Rattle.cs_member.specs.Chart.Made.{AreAwaited}
use Rattle.cs_member.proofs.OnChart.Bucketing.{bucket_here, bucket_low, here_at, here_item}
use Rattle.cs_member.proofs.OnChart.Marking.{awaited_more}
use Rattle.cs_member.proofs.chart.chart.expect_awaited.Goals as goal

pub loop-origin-init : goal.loop-origin-init
loop-origin-init c = record {
  stays = λ a h. h;
  closed = c.requires.closed;
  awaited = λ k a o at w. absurd (let lt = slice_get_within [] k o at in omega arith);
}

pub next_of-requires : goal.next_of-requires
next_of-requires c =
    let g = c.args.question.now.grammar.now in
    here_item g c.origin-item.result.item (here_at g c.args.origins.now c.loop-origin.origin-index c.origin-item.result c.requires.here c.loop-origin-test.true c.origin-item.is)

pub expect-requires-clause-nonterminal : goal.expect-requires-clause-nonterminal
expect-requires-clause-nonterminal c =
    bucket_low c.args.question.now.grammar.now c.args.origins.now c.loop-origin.origin-index c.origin-item.result c.next_of.result c.awaited-nonterminal.result c.rules-well_formed.ensures.well_formed c.requires.here c.loop-origin-test.true c.origin-item.is
    c.next_of.ensures c.awaited-nonterminal.ensures

pub loop-origin-preserved : goal.loop-origin-preserved
loop-origin-preserved c =
    let g = c.args.question.now.grammar.now in
    let origins = c.args.origins.now in
    let k = c.loop-origin.origin-index in
    let o = c.origin-item.result in
    let bucket = bucket_here g origins k o c.next_of.result c.awaited-nonterminal.result c.rules-well_formed.ensures.well_formed c.requires.here c.loop-origin-test.true c.origin-item.is c.next_of.ensures c.awaited-nonterminal.ensures in
    let said = c.in_ok-expect.ensures in
    let inv = c.loop-origin.invariant in
    record {
      stays = λ a h. said.stays a (inv.stays a h);
      closed = said.closed;
      awaited = awaited_more g origins k o c.awaited-nonterminal.result c.loop-origin.expected.items c.expect.new.expected.items c.loop-origin-test.true c.origin-item.is bucket said.stays said.there inv.awaited;
    }

pub returns-clause-awaited : goal.returns-clause-awaited
returns-clause-awaited c =
    subst (λ (l : List Origins). AreAwaited c.args.question.now.grammar.now l c.loop-origin.expected.items) (take_all c.loop-origin.origin-index c.args.origins.now c.loop-origin-test.false) c.loop-origin.invariant.awaited
