-- None of the lexemes, the verdicts and what is told is without one, so neither is the text.
use Rattle.cs_spell.proofs.OnWriting.SomeSpelling.{some_spelling_by}
use Rattle.cs_spell.proofs.writing.laws.some_spelling.Goals as goal

-- some text, since lexemes, verdicts and what is told of each rule aren't without one
pub returns : goal.returns
returns c = some_spelling_by
