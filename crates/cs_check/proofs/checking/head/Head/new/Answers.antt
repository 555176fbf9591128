-- Above the first line nothing is counted, nothing is claimed and nothing is weighed.
use Rattle.std.proofs.Common.{refl, inl}
use Rattle.cs_check.proofs.OnChecking.HeadPlaces.{no_place}
use Rattle.cs_check.proofs.OnChecking.HeadClaims.{no_claims}
use Rattle.cs_check.proofs.checking.head.Head.new.Goals as goal

pub returns : goal.returns
returns c = λ file. record {
  many = refl;
  place = no_place file.grammar;
  sets = refl;
  unclaimed = no_claims;
  whole = tt;
  measure = inl (refl, refl, c.new.ensures.items);
}
