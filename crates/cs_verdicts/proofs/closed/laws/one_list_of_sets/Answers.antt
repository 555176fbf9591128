-- Each set lists in order those that have its property, so every part of two such lists is the same.
use Rattle.cs_verdicts.proofs.OnClosed.OneClosed.{one_closed}
use Rattle.cs_verdicts.proofs.closed.laws.one_list_of_sets.Goals as goal

pub returns : goal.returns
returns c = one_closed
