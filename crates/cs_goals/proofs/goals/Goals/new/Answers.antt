-- All goals of a criterion are left where it is chosen, and none where it isn't.
use Rattle.std.proofs.Common.{◌≡◌, ◌+◌, List, [], cond, length, ap, ◌∙◌}
use Rattle.cs_grammar.specs.Grammar.{Production}
use Rattle.cs_goals.specs.Goals.{rule_goals, context_goals, pair_goals}
use Rattle.cs_goals.specs.Rest.{rules_left, contexts_left, pairs_left}
use Rattle.cs_goals.proofs.Remaining.{rules_chosen, rules_left_out, contexts_chosen, contexts_left_out, pairs_chosen, pairs_left_out}
use Rattle.cs_goals.proofs.goals.Goals.new.Goals as goal
use Rattle.cs_goals.proofs.goals.Goals.new.Goals.{then-criteria, else-criteria, then-criteria-2, else-criteria-2, then-criteria-3, else-criteria-3}

pub returns : goal.returns
returns c =
    let g = c.args.grammar.now in
    let last = c.rules-last.ensures.rules in
    let criteria = c.args.criteria in
    let rules : rules_left g c.if-criteria.result ≡ cond criteria.rule (rule_goals g) [] = elim c.if-criteria.branch [
      | then-criteria w ↦ rules_chosen g criteria.rule _ w.if-criteria.true w.result-is
      | else-criteria w ↦ rules_left_out g criteria.rule _ w.if-criteria.false (w.result-is ∙ ap (λ (l : List Production). length l) last)
    ] in
    let contexts : contexts_left g c.if-criteria-2.result 0 0 ≡ cond criteria.cdrc (context_goals g) [] = elim c.if-criteria-2.branch [
      | then-criteria-2 w ↦ contexts_chosen g criteria.cdrc _ w.if-criteria-2.true w.result-is
      | else-criteria-2 w ↦ contexts_left_out g criteria.cdrc _ w.if-criteria-2.false (w.result-is ∙ ap (λ (l : List Production). length l) last)
    ] in
    let pairs : pairs_left g.tokens c.if-criteria-3.result 0 ≡ cond criteria.pair (pair_goals g) [] = elim c.if-criteria-3.branch [
      | then-criteria-3 w ↦ pairs_chosen g criteria.pair _ w.if-criteria-3.true w.result-is
      | else-criteria-3 w ↦ pairs_left_out g criteria.pair _ w.if-criteria-3.false (w.result-is ∙ ap (λ n. n + 1) w.tokens.ensures)
    ] in
    cc
