-- The goals of the chosen criteria are the grammar's, and tables can judge all of them.
use Rattle.std.proofs.Common.{List, sym, ap, ◌∙◌, subst}
use Rattle.cs_grammar.specs.Grammar.{PlainGrammar}
use Rattle.cs_grammar.specs.Weights.{Weighed}
use Rattle.cs_goals.specs.declared.goal.Goal.{Goal}
use Rattle.cs_goals.specs.Goals.{goals}
use Rattle.cs_least.specs.Embed.Contexts.{AreContextsOf}
use Rattle.cs_verdicts.specs.Positive.Positives.{AreOfGrammar}
use Rattle.cs_verdicts.proofs.OnPositive.Judged.{of_grammar}
use Rattle.cs_verdicts.proofs.positive.positive.Positives.new.Goals as goal

pub invariant_of-result : goal.invariant_of-result
invariant_of-result c =
    let g = c.args.tables.now.grammar in
    let contexts = subst (λ (v : Weighed). AreContextsOf v c.new-2.result.contexts) c.embeds.ensures c.new-2.ensures in
    let is = c.new.ensures ∙ ap (λ (m : PlainGrammar). goals m c.args.criteria) c.grammar.ensures in
    (subst (λ (l : List Goal). AreOfGrammar g l) (sym is) (of_grammar g c.args.criteria), (λ k d within. tt), contexts)
