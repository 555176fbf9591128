-- The word is `first`, `last` or `next`, or no row has it.
use Rattle.std.proofs.Common.{refl}
use Rattle.std.proofs.lemmas.Bool.{false≢true}
use Rattle.cs_lines.proofs.OnLines.Parts.{no_row}
use Rattle.cs_lines.proofs.lines.parts.row_of.Goals as goal

pub returns-then-same_word : goal.returns-then-same_word
returns-then-same_word c = ((c.if-same_word.ensures).0 refl)

pub returns-then-same_word-2 : goal.returns-then-same_word-2
returns-then-same_word-2 c = ((c.if-same_word-2.ensures).0 refl)

pub returns-then-same_word-3 : goal.returns-then-same_word-3
returns-then-same_word-3 c = ((c.if-same_word-3.ensures).0 refl)

pub returns-else-same_word-3 : goal.returns-else-same_word-3
returns-else-same_word-3 c = no_row _ (λ e. false≢true ((c.if-same_word.ensures).1 e)) (λ e. false≢true ((c.if-same_word-2.ensures).1 e)) (λ e. false≢true ((c.if-same_word-3.ensures).1 e))
