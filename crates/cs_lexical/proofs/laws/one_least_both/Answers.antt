-- Texts are numbered in their order, so of texts in which both rules overlap there is one least, and not two.
use Rattle.cs_lexical.proofs.LawProofs.{least_both}
use Rattle.cs_lexical.proofs.laws.one_least_both.Goals as goal

pub returns : goal.returns
returns c = least_both
