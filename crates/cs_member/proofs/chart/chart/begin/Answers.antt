-- Nothing is found yet, and then what follows from the token before.
use Rattle.std.proofs.Common.{ℕ, Option, subst}
use Rattle.cs_member.specs.Chart.Now.{ArePassed, IsKept}
use Rattle.cs_member.proofs.OnChart.Making.{none_passed, from_scan}
use Rattle.cs_member.proofs.chart.chart.begin.Goals as goal

pub returns-clause-passed : goal.returns-clause-passed
returns-clause-passed c =
    let g = c.args.question.now.grammar.now in
    let ahead = c.token_at-ahead.result in
    subst (λ (a : Option ℕ). ArePassed g a c.scan.new.now) c.token_at-ahead.ensures (c.in_ok-scan.ensures.put.passed (none_passed g ahead c.clear.new.self c.clear.ensures.origins))

pub returns-clause-scanned : goal.returns-clause-scanned
returns-clause-scanned c = λ lt x j of.
    let g = c.args.question.now.grammar.now in
    subst (λ (a : Option ℕ). IsKept g a c.scan.new.now x j) c.token_at-ahead.ensures (c.in_ok-scan.ensures.put.kept x j of)

pub returns-clause-from : goal.returns-clause-from
returns-clause-from c = from_scan c.args.question.now.grammar.now c.token_at-ahead.result c.args.question.now.tables.now c.args.question.now.tokens.now c.args.chart.now c.clear.new.self c.scan.new.now c.clear.ensures.origins c.clear.ensures.spans c.in_ok-scan.ensures.put
