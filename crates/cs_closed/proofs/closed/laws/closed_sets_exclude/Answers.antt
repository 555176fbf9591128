-- A goal that a tree of the start symbol meets is allowed by closed sets.
use Rattle.cs_closed.proofs.OnClosed.Held.{allowed}
use Rattle.cs_closed.proofs.closed.laws.closed_sets_exclude.Goals as goal

pub returns : goal.returns
returns c g s k closed excluded t is_tree met = excluded (allowed s g closed k t is_tree met)
