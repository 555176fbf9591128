-- The first token's pair with the begin, and then the pairs behind that token.
use Rattle.cs_verdicts.proofs.OnCases.Inside.{framed_one}
use Rattle.cs_verdicts.proofs.OnCases.Placed.{OnOk_then}
use Rattle.cs_verdicts.proofs.cases.met.add_pairs.Goals as goal

pub returns-in_ok-add_pair-in-Some-clause-added : goal.returns-in_ok-add_pair-in-Some-clause-added
returns-in_ok-add_pair-in-Some-clause-added c =
    OnOk_then c.add_pairs_after.result
    (λ added. framed_one c.in-Some.first.now c.in-Some.rest.now c.args.tokens.now c.args.case c.args.firsts.now c.add_pair-in-Some.new.self c.add_pairs_after.new.firsts
    c.in-Some.ensures.cases.0 c.in_ok-add_pair-in-Some.ensures.added added) c.add_pairs_after.ensures.added
