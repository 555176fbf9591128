-- Inside, the derivation stands behind the word; outside, the word is all.
use Rattle.std.proofs.Common.{List, ℕ, ap}
use Rattle.cs_deep.specs.Membership.{membership_lines}
use Rattle.cs_manifest.proofs.OnOutput.Pieces.{spelled, then}
use Rattle.cs_member.specs.declared.membership.membership.Membership.TheVariants.{Inside}
use Rattle.cs_deep.proofs.membership.put_lines.Goals as goal

pub returns-in-Inside : goal.returns-in-Inside
returns-in-Inside g c =
    let here = then (then c.put.ensures c.put_derivation.ensures) c.put-in-Inside.ensures in
    rw c.in-Inside.is (spelled _ (ap (λ (l : List ℕ). membership_lines (Inside l)) c.rules.ensures) here)
