-- What the token gave stays while spans add to it, and the position has all of that.
use Rattle.std.proofs.Common.{ℕ, ◌<◌, Option, subst, ◌∙◌, length, eq-eqb}
use Rattle.std.specs.Prelude.{slice_get}
use Rattle.cs_member.specs.Chart.Chart.{Grows, IsFollowed}
use Rattle.cs_member.proofs.OnChart.Following.{kept_grown}
use Rattle.cs_member.proofs.OnChart.Making.{from_caused}
use Rattle.cs_member.proofs.chart.chart.make.Goals as goal

pub returns-clause-made : goal.returns-clause-made
returns-clause-made c =
    let g = c.args.question.now.grammar.now in
    let chart = c.args.chart.now in
    let tokens = c.args.question.now.tokens.now in
    let fronts = c.args.question.now.tables.now.nonterminals.items in
    let old = c.begin.new.now in
    let new = c.complete.new.now in
    let ahead : Option ℕ = slice_get tokens (length chart) in
    let said = c.in_ok-complete.ensures in
    let settled = c.in_ok-position.ensures in
    let grows : Grows g ahead old new = subst (λ (a : Option ℕ). Grows g a old new) c.token_at-ahead.ensures said.grows in
    record {
      now = new;
      is_now = said.now;
      before_here = said.before;
      passed = grows.passed c.in_ok-begin.ensures.passed;
      scanned = λ lt x j of. kept_grown g ahead old new x j grows (c.in_ok-begin.ensures.scanned lt x j of);
      followed = subst (λ (a : Option ℕ). (n : ℕ) → n < length new.spans.items → IsFollowed g a chart fronts new n) c.token_at-ahead.ensures said.followed;
      from = from_caused g ahead c.args.question.now.tables.now tokens chart old new grows said.caused c.in_ok-begin.ensures.from;
      buckets = settled.buckets;
      rows = settled.rows;
      first = λ none. settled.first (c.is_empty.ensures ∙ eq-eqb (length chart) 0 none);
      awaited = settled.awaited;
      closed = settled.closed;
      spans = settled.spans;
    }
