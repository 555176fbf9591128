-- No mark is set, so nothing is listed.
use Rattle.cs_member.proofs.OnChart.Marking.{none_marked}
use Rattle.cs_member.proofs.tables.descents.none_expected.Goals as goal

pub returns-clause-none : goal.returns-clause-none
returns-clause-none c = none_marked c.loop.expected.items c.loop.invariant.none
