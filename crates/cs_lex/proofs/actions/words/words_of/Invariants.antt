use Rattle.std.proofs.Common.{length}
use Rattle.cs_lex.proofs.OnActions.WordsFound.{Gives}
use Rattle.cs_lex.proofs.actions.words.words_of.Given as goal

abbrev pub invariant-loop-word : goal.invariant-loop-word
invariant-loop-word l = Gives l.text l.initial.rest l.rest l.found

abbrev pub decreases-loop-word : goal.decreases-loop-word
decreases-loop-word l = length l.rest
