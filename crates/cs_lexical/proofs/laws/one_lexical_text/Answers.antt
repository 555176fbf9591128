-- The lines are those of the least texts, and there is one table of these at most.
use Rattle.cs_lexical.proofs.TextProofs.{one_text}
use Rattle.cs_lexical.proofs.laws.one_lexical_text.Goals as goal

pub returns : goal.returns
returns c = one_text
