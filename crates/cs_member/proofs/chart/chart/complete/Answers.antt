-- What follows from one span more is put, and what followed from those before stays.
use Rattle.std.proofs.Common.{◌<◌, length, Some, arith}
use Rattle.cs_member.specs.Chart.Chart.{OfSpan}
use Rattle.cs_member.proofs.OnTables.Places.{there_at}
use Rattle.cs_member.proofs.OnChart.Following.{caused_none, caused_now, grows_none, grows_put, grows_then, followed_now}
use Rattle.cs_member.proofs.chart.chart.complete.Goals as goal

pub loop-number-init : goal.loop-number-init
loop-number-init c = record {
  now = c.requires.now;
  guesses = c.requires.guesses;
  before = c.requires.before;
  grows = grows_none c.args.question.now.grammar.now c.args.ahead c.args.now.now;
  caused = caused_none c.args.question.now.grammar.now c.args.chart.now c.args.question.now.tables.now.nonterminals.items c.args.now.now;
  followed = λ n lt. absurd (omega arith);
}

pub loop-number-preserved : goal.loop-number-preserved
loop-number-preserved c =
    let g = c.args.question.now.grammar.now in
    let chart = c.args.chart.now in
    let fronts = c.args.question.now.tables.now.nonterminals.items in
    let old = c.loop-number.now in
    let new = c.follow.new.now in
    let i = c.loop-number.number in
    let said = c.in_ok-follow.ensures in
    let lt : i < length old.spans.items = (let lt = c.if-number-len.false in let size = c.len.ensures in omega arith) in
    let here = there_at old.spans.items i lt in
    let put = said.put here.0 here.1 in
    let grows = grows_put g c.args.ahead (Some i) (OfSpan chart fronts here.0) old new put in
    record {
      now = said.now;
      guesses = said.guesses;
      before = said.before;
      grows = grows_then g c.args.ahead c.args.now.now old new c.loop-number.invariant.grows grows;
      caused = caused_now g c.args.ahead chart fronts c.args.now.now old new i here.0 here.1 put c.loop-number.invariant.caused;
      followed = λ n below. followed_now g c.args.ahead (Some i) chart fronts old new i here.0 here.1 put c.loop-number.invariant.followed n below;
    }

pub returns-then-number-len-clause-followed : goal.returns-then-number-len-clause-followed
returns-then-number-len-clause-followed c = λ n lt. (c.loop-number.invariant.followed n (let ge = c.if-number-len.true in let size = c.len.ensures in omega arith)).1
