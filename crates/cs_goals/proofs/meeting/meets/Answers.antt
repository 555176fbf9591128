-- The rule numbers are those of the nodes, and the yield tells which marks follow one another.
use Rattle.std.proofs.Common.{◌↔◌, ℕ, List, ap, sym, subst, ◌∙◌}
use Rattle.std.specs.Prelude.{IsTrue}
use Rattle.cs_grammar.specs.Sentence.{framed, IsFollowed}
use Rattle.cs_goals.specs.declared.goal.Goal.{Goal}
use Rattle.cs_goals.specs.Meets.{IsMeeting}
use Rattle.cs_goals.proofs.Decided.{listed, rule_met, pair_met}
use Rattle.cs_goals.proofs.meeting.meets.Goals as goal

pub returns-in-Rule : goal.returns-in-Rule
returns-in-Rule c =
    let g = c.args.grammar.now in
    let rules = c.args.derivation.now in
    let met = rule_met c.in-Rule.rule g rules c.contains.result c.requires (c.contains.ensures.value ∙ ap (λ (l : List ℕ). listed c.in-Rule.rule l) c.rules.ensures) in
    subst (λ (k : Goal). IsTrue c.contains.result ↔ IsMeeting g k rules) (sym c.in-Rule.is) met

pub returns-in_ok-tokens-in-Pair : goal.returns-in_ok-tokens-in-Pair
returns-in_ok-tokens-in-Pair c =
    let g = c.args.grammar.now in
    let rules = c.args.derivation.now in
    let pair = subst (λ (l : List ℕ). IsTrue c.has_pair.result ↔ IsFollowed c.in-Pair.left c.in-Pair.right (framed l)) c.deref.ensures.value c.has_pair.ensures in
    let met = pair_met g rules c.in_ok-tokens-in-Pair.tokens.items c.in-Pair.left c.in-Pair.right c.has_pair.result c.in_ok-tokens-in-Pair.ensures pair in
    subst (λ (k : Goal). IsTrue c.has_pair.result ↔ IsMeeting g k rules) (sym c.in-Pair.is) met
