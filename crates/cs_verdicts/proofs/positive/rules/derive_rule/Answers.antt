-- A feasible goal has a least context and small children, and their chosen codes around the rule are its code.
use Rattle.std.proofs.Common.{◌++◌, List, ℕ, sym, ap, ◌∙◌, subst}
use Rattle.cs_grammar.specs.declared.symbol.Symbol.{Symbol}
use Rattle.cs_grammar.specs.Grammar.{PlainGrammar, IsRule}
use Rattle.cs_grammar.specs.Weights.{Weighed}
use Rattle.cs_least.specs.Cost.Chosen.{AppendsAllChosen}
use Rattle.cs_least.specs.Cost.Trees.{HaveSmall}
use Rattle.cs_least.specs.Embed.Around.{HasLeastContext, IsAround}
use Rattle.cs_verdicts.proofs.OnPositive.RuleGoals.{has_context, has_children, rule_code}
use Rattle.cs_verdicts.proofs.positive.rules.derive_rule.Goals as goal

pub take-requires-clause-least : goal.take-requires-clause-least
take-requires-clause-least c =
    let w = c.args.embeds.now.weights in
    let g = c.args.embeds.now.grammar in
    let rule = subst (λ (s : PlainGrammar). IsRule s c.args.number c.rule-rule.result.now) c.grammar.ensures c.rule-rule.ensures.rule in
    subst (λ n. HasLeastContext w g n) (sym c.left.ensures) (has_context w g c.args.number c.rule-rule.result.now rule c.requires.feasible.0 c.requires.feasible.1)

pub all_into-requires-clause-small : goal.all_into-requires-clause-small
all_into-requires-clause-small c =
    let w = c.args.embeds.now.weights in
    let g = c.args.embeds.now.grammar in
    let rule = subst (λ (s : PlainGrammar). IsRule s c.args.number c.rule-rule.result.now) c.grammar.ensures c.rule-rule.ensures.rule in
    let small = subst (λ (l : List Symbol). HaveSmall w g l) (sym c.right.ensures) (has_children w g c.args.number c.rule-rule.result.now rule c.requires.feasible.0 c.requires.feasible.1) in
    subst (λ (v : Weighed). HaveSmall v.weights v.grammar c.right.result.now) (sym c.costs-costs.ensures) small

pub returns-clause-code : goal.returns-clause-code
returns-clause-code c =
    let w = c.args.embeds.now.weights in
    let g = c.args.embeds.now.grammar in
    let p = c.rule-rule.result.now in
    let rule = subst (λ (s : PlainGrammar). IsRule s c.args.number p) c.grammar.ensures c.rule-rule.ensures.rule in
    let context = c.in_ok-around.around.context in
    let before = context.before.items in
    let after = context.after.items in
    let around = subst (λ n. IsAround w g n before after) (c.in_ok-around.ensures.nonterminal ∙ c.left.ensures) c.in_ok-around.ensures.chosen in
    let appended = subst (λ (l : List Symbol). AppendsAllChosen w g l c.push.new.self c.all_into.new.into) c.right.ensures
    (subst (λ (v : Weighed). AppendsAllChosen v.weights v.grammar c.right.result.now c.push.new.self c.all_into.new.into) c.costs-costs.ensures c.in_ok-all_into.ensures.ok) in
    rule_code w g c.args.number p before after c.extend_from_slice.new.self c.push.new.self c.all_into.new.into c.extend_from_slice-2.new.self rule around
    (c.in_ok-extend_from_slice.ensures.ok ∙ ap (λ (l : List ℕ). l ++ c.deref.result.now) c.in_ok-derivation.ensures ∙ c.deref.ensures.value)
    c.in_ok-push.ensures.ok appended
    (c.in_ok-extend_from_slice-2.ensures.ok ∙ ap (λ (l : List ℕ). c.all_into.new.into ++ l) c.deref-2.ensures.value)
