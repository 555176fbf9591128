-- A code is new or not, which settles the cases, and in them each lowest number is one.
use Rattle.cs_verdicts.proofs.OnCases.Lowest.{one_placing}
use Rattle.cs_verdicts.proofs.cases.laws.one_placing.Goals as goal

pub returns : goal.returns
returns c = one_placing
