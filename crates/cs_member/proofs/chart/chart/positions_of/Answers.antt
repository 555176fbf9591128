-- One position more is made from those before it.
use Rattle.std.proofs.Common.{◌≡◌, ◌+◌, List, length, subst, sym, ap, arith}
use Rattle.cs_member.specs.declared.chart.chart.Position.{Position}
use Rattle.cs_member.specs.Chart.Made.{IsMade, IsChart}
use Rattle.cs_member.specs.Chart.Chart.{ArePositions}
use Rattle.cs_member.proofs.OnChart.Making.{chart_none, chart_push, chart_positions}
use Rattle.cs_member.proofs.chart.chart.positions_of.Goals as goal

pub make-requires-clause-chart : goal.make-requires-clause-chart
make-requires-clause-chart c =
    let g = c.args.question.now.grammar.now in
    subst (λ (l : List Position). ArePositions g l) (sym c.deref.ensures.value) (chart_positions g c.args.question.now.tables.now c.args.question.now.tokens.now c.loop.counter c.loop.chart.items c.loop.invariant.chart)

pub make-requires-clause-last : goal.make-requires-clause-last
make-requires-clause-last c =
    let long = c.loop.invariant.chart.long in
    let same = ap (λ (l : List Position). length l) c.deref.ensures.value in
    let lt = c.loop-test.true in
    omega arith

pub loop-init : goal.loop-init
loop-init c = record {
  now = c.in_ok-now.ensures.now;
  guesses = c.requires.guesses;
  chart = subst (λ (l : List Position). IsChart c.args.question.now.grammar.now c.args.question.now.tables.now c.args.question.now.tokens.now 0 l) (sym c.in_ok-chart.ensures.items) (chart_none c.args.question.now.grammar.now c.args.question.now.tables.now c.args.question.now.tokens.now);
}

pub loop-preserved : goal.loop-preserved
loop-preserved c =
    let g = c.args.question.now.grammar.now in
    let tables = c.args.question.now.tables.now in
    let tokens = c.args.question.now.tokens.now in
    let made = subst (λ (l : List Position). IsMade g tables tokens l c.in_ok-position.position) c.deref.ensures.value c.in_ok-position.ensures.made in
    record {
      now = c.in_ok-position.ensures.now;
      guesses = c.in_ok-position.ensures.guesses;
      chart = subst (λ (l : List Position). IsChart g tables tokens (c.loop.counter + 1) l) (sym c.in_ok-push.ensures.items) (chart_push g tables tokens c.loop.counter c.loop.chart.items c.in_ok-position.position c.loop.invariant.chart made);
    }

pub returns : goal.returns
returns c =
    let same : c.loop.counter ≡ length c.args.question.now.tokens.now + 1 = (let ge = c.loop-test.false in let le = c.loop.auto.counter-end in omega arith) in
    subst (λ n. IsChart c.args.question.now.grammar.now c.args.question.now.tables.now c.args.question.now.tokens.now n c.loop.chart.items) same c.loop.invariant.chart
