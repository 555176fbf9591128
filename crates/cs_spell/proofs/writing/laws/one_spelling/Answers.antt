-- The lexemes, the verdicts and what is told of each rule are each one, and so is the text.
use Rattle.cs_spell.proofs.OnWriting.OneSpelling.{one_spelling_by}
use Rattle.cs_spell.proofs.writing.laws.one_spelling.Goals as goal

-- one text, since its lexemes, verdicts and what is told are each one
pub returns : goal.returns
returns c = one_spelling_by
