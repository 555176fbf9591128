-- The item of one row more is put, with the awaited symbol taken.
use Rattle.std.proofs.Common.{take, List, sym, subst, arith}
use Rattle.std.proofs.lemmas.List.{take_all}
use Rattle.cs_member.specs.declared.chart.chart.Row.{Row}
use Rattle.cs_member.specs.Chart.Now.{ArePut}
use Rattle.cs_member.specs.Chart.Chart.{OfRows, IsRow}
use Rattle.cs_member.proofs.OnChart.Puts.{puts_none, puts_rows}
use Rattle.cs_member.proofs.chart.chart.put_rows.Goals as goal

pub loop-row-init : goal.loop-row-init
loop-row-init c = record {
  now = c.requires.now;
  guesses = c.requires.guesses;
  put = puts_none c.args.question.now.grammar.now c.args.way.ahead c.args.way.cause (OfRows (take 0 c.args.rows.now)) c.args.now.now (λ x j h. let lt = h.1.1 in absurd (omega arith));
}

pub loop-row-preserved : goal.loop-row-preserved
loop-row-preserved c = record {
  now = c.in_ok-put.ensures.now;
  guesses = c.in_ok-put.ensures.guesses;
  put = puts_rows c.args.question.now.grammar.now c.args.way.ahead c.args.way.cause c.args.rows.now c.loop-row.row-index c.row-item.result c.over.result c.as_slice.result.now c.args.now.now c.loop-row.now c.put.new.now c.loop-row-test.true c.row-item.is c.over.ensures c.as_slice.ensures c.loop-row.invariant.put c.in_ok-put.ensures.put;
}

pub returns-clause-put : goal.returns-clause-put
returns-clause-put c =
    subst (λ (l : List Row). ArePut c.args.question.now.grammar.now c.args.way.ahead c.args.way.cause (OfRows l) c.args.now.now c.loop-row.now) (take_all c.loop-row.row-index c.args.rows.now c.loop-row-test.false) c.loop-row.invariant.put

pub over-requires : goal.over-requires
over-requires c =
    let row = subst (λ (r : Row). IsRow c.args.question.now.grammar.now r) (sym c.row-item.is) (c.requires.rows c.loop-row.row-index c.row-item.result c.loop-row-test.true) in
    let small = row.small in
    omega arith
