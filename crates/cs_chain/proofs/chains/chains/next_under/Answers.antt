-- The places of a right side and the rules of a grammar are few enough for their numbers.
use Rattle.std.proofs.Common.{arith}
use Rattle.cs_grammar.proofs.Measures.{IsRuleOf-rule}
use Rattle.cs_chain.proofs.chains.chains.next_under.Goals as goal

pub number_of-requires : goal.number_of-requires
number_of-requires c =
    let o = c.args.opened in
    let rule = IsRuleOf-rule c.args.grammar.now o.middle o.rule.now c.rules-well_formed.ensures.well_formed c.requires in
    omega (arith, (c.in_ok-at.ensures o.middle).0, rule.short)

pub number_of-requires-2 : goal.number_of-requires-2
number_of-requires-2 c =
    omega (arith, (c.in_ok-at.ensures c.args.opened.middle).1, c.rules-well_formed.ensures.well_formed.few)
