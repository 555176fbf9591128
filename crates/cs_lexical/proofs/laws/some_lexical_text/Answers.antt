-- Rules aren't without a table of least texts, and each table has its lines.
use Rattle.cs_lexical.proofs.TextProofs.{some_text}
use Rattle.cs_lexical.proofs.laws.some_lexical_text.Goals as goal

pub returns : goal.returns
returns c = some_text
