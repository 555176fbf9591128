-- What right lines claim is so, and a text that passes can't but say right lines.
use Rattle.cs_check.proofs.OnPassing.Claiming.{lines_true, passing_true}
use Rattle.cs_check.proofs.passing.claims.passing_claims.Goals as goal

pub returns-clause-lines : goal.returns-clause-lines
returns-clause-lines c k lines right = lines_true k lines right

pub returns-clause-texts : goal.returns-clause-texts
returns-clause-texts c k text passes never = passing_true k text passes never
