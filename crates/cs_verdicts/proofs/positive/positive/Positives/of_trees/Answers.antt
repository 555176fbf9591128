-- The goals of criteria without pairs are the grammar's, and trees alone can judge them.
use Rattle.std.proofs.Common.{List, sym, ap, ◌∙◌, subst}
use Rattle.std.specs.Prelude.{All}
use Rattle.cs_grammar.specs.Grammar.{PlainGrammar}
use Rattle.cs_goals.specs.declared.goal.Goal.{Goal}
use Rattle.cs_goals.specs.Goals.{goals}
use Rattle.cs_verdicts.specs.Positive.Positives.{AreOfGrammar}
use Rattle.cs_verdicts.specs.Positive.Verdict.{IsTreeGoal}
use Rattle.cs_verdicts.proofs.OnPositive.Judged.{of_grammar, tree_goals}
use Rattle.cs_verdicts.proofs.positive.positive.Positives.of_trees.Goals as goal

pub invariant_of-result : goal.invariant_of-result
invariant_of-result c =
    let g = c.args.embeds.now.grammar in
    let is = c.new.ensures ∙ ap (λ (m : PlainGrammar). goals m c.args.criteria) c.grammar.ensures in
    (subst (λ (l : List Goal). AreOfGrammar g l) (sym is) (of_grammar g c.args.criteria), subst (λ (l : List Goal). All IsTreeGoal l) (sym is) (tree_goals g c.args.criteria c.requires), c.new-2.ensures)
