-- The goals inside the tree and the pairs of its yield are all that it meets.
use Rattle.std.proofs.Common.{subst}
use Rattle.cs_verdicts.specs.Cases.Met.{AreInsideAdded}
use Rattle.cs_verdicts.proofs.OnCases.Placed.{OnOk_then, all_added}
use Rattle.cs_verdicts.proofs.cases.met.add_met.Goals as goal

pub returns-clause-added : goal.returns-clause-added
returns-clause-added c =
    let g = c.args.grammar.now in
    let rules = c.args.derivation.now in
    let inside = subst (λ old. AreInsideAdded g rules c.args.case old c.add_inside.new.firsts) c.in_ok-make_slots.ensures c.in_ok-add_inside.ensures.added in
    OnOk_then c.add_pairs.result (λ pairs. all_added g rules c.args.tokens.now c.args.case c.args.firsts.now c.add_inside.new.firsts c.add_pairs.new.firsts c.requires inside pairs) c.add_pairs.ensures.added
