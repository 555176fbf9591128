-- The sets that are held are those that the lines claim.
use Rattle.std.proofs.Common.{Option, subst}
use Rattle.cs_closed.specs.Closed.Sets.{PlainSets}
use Rattle.cs_check.specs.Checking.Excluded.{AreSetsIn}
use Rattle.cs_check.proofs.checking.head.Head.are_closed.Goals as goal

pub returns-in-Some : goal.returns-in-Some
returns-in-Some c = λ lines sets has.
    let claimed = subst (λ (t : Option PlainSets). AreSetsIn c.args.file.now lines t) c.in-Some.is sets in
    c.close.ensures lines claimed.1
