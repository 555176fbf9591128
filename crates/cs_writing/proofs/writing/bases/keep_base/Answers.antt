-- An entry whose tokens are there is feasible and offers them; one without isn't, and leaves the bases.
use Rattle.std.proofs.Common.{subst}
use Rattle.cs_writing.proofs.OnWriting.Kept.{keeps_one, keeps_other}
use Rattle.cs_writing.specs.Writing.Mutants.{AreItsTokens}
use Rattle.cs_writing.proofs.writing.bases.keep_base.Goals as goal

pub returns-in-None : goal.returns-in-None
returns-in-None c = λ entry are. keeps_other c.args.before entry c.args.bases.now (subst (AreItsTokens entry) c.in-None.is are)

pub returns-in_ok-offer-in-Some : goal.returns-in_ok-offer-in-Some
returns-in_ok-offer-in-Some c = λ entry are.
    let its = subst (AreItsTokens entry) c.in-Some.is are in
    keeps_one c.args.before entry c.in-Some.tokens.now c.in_ok-offer-in-Some.field-0 c.args.bases.now c.offer.new.self its.0 its.1
    c.in_ok-offer-in-Some.ensures.taken c.in_ok-offer-in-Some.ensures.bases
