-- A rule has one chosen context and one chosen tree of each symbol.
use Rattle.cs_wrong.proofs.OnSlips.Placing.{one_list}
use Rattle.cs_wrong.proofs.writing.laws.one_list_of_slip.Goals as goal

pub returns : goal.returns
returns c v slip = one_list v slip
