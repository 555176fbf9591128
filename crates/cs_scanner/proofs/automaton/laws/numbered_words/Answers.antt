-- Part by part.
use Rattle.cs_scanner.proofs.OnAutomaton.NumberedWords.{word_matches}
use Rattle.cs_scanner.proofs.automaton.laws.numbered_words.Goals as goal

pub returns : goal.returns
returns c = word_matches
