-- By the kinds of changes and the rules' numbers.
use Rattle.cs_wrong.proofs.OnSlips.Exact.{all, once}
use Rattle.cs_wrong.proofs.writing.laws.each_slip_once.Goals as goal

pub returns-clause-once : goal.returns-clause-once
returns-clause-once c g chosen = once g chosen

pub returns-clause-all : goal.returns-clause-all
returns-clause-all c g chosen = all g chosen
