-- The rule at the place is one of the grammar, so that its number makes a goal.
use Rattle.cs_spell.proofs.OnTelling.Judging.{goal_at}
use Rattle.cs_spell.proofs.telling.judged.judge_rule.Goals as goal

pub judge_tree_goal-requires-clause-goal : goal.judge_tree_goal-requires-clause-goal
judge_tree_goal-requires-clause-goal c = goal_at c.args.embeds.now.grammar c.args.place c.number_of-rule.result c.requires.place c.number_of-rule.ensures
