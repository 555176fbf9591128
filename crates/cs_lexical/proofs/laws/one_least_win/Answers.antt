-- Texts are numbered in their order, so of texts that the rule wins there is one least, and not two.
use Rattle.cs_lexical.proofs.LawProofs.{least_win}
use Rattle.cs_lexical.proofs.laws.one_least_win.Goals as goal

pub returns : goal.returns
returns c = least_win
