-- Goals of one criterion differ, and so do those of two; each that fits has its place in the list.
use Rattle.cs_goals.proofs.Once.{once, all}
use Rattle.cs_goals.proofs.laws.each_goal_once.Goals as goal

pub returns-clause-once : goal.returns-clause-once
returns-clause-once c g criteria = once g criteria

pub returns-clause-all : goal.returns-clause-all
returns-clause-all c g criteria k = all g criteria k
