-- What verdicts come from, and which goals have one by it. Working words of proofs.
use Rattle.cs_grammar.specs.Weights.{Weighed}
use Rattle.cs_goals.specs.declared.goal.Goal.{Goal}
use Rattle.cs_verdicts.specs.declared.positive.judges.Judge.{Judge}
use Rattle.cs_verdicts.specs.declared.positive.judges.Judge.TheVariants.{Tables, Trees}
use Rattle.cs_verdicts.specs.Positive.Verdict.{IsTreeGoal}

-- the grammar and the weights
abbrev pub judged_by : Judge → Weighed
judged_by (Tables tables) = tables.now
judged_by (Trees embeds) = embeds.now

-- without tables of pairs no pair goal is judged
abbrev pub CanJudge : Judge → Goal → Type 0
CanJudge (Tables tables) goal = Unit {0}
CanJudge (Trees embeds) goal = IsTreeGoal goal
