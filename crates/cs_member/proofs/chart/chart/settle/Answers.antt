-- What the items found await is expected.
use Rattle.std.proofs.Common.{List, subst}
use Rattle.cs_member.specs.declared.chart.now.Origins.{Origins}
use Rattle.cs_member.specs.Chart.Made.{AreAwaited}
use Rattle.cs_member.proofs.chart.chart.settle.Goals as goal

pub returns-clause-awaited : goal.returns-clause-awaited
returns-clause-awaited c = subst (λ (l : List Origins). AreAwaited c.args.question.now.grammar.now l c.in_ok-expected.expected.items) c.deref-2.ensures.value c.in_ok-expected.ensures.awaited
