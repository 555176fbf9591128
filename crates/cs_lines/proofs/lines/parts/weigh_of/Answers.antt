-- The word is `nodes` or `bytes`, or it says nothing of sizes.
use Rattle.std.proofs.Common.{refl}
use Rattle.std.proofs.lemmas.Bool.{false≢true}
use Rattle.cs_lines.proofs.OnLines.Parts.{no_weigh}
use Rattle.cs_lines.proofs.lines.parts.weigh_of.Goals as goal

pub returns-then-same_word : goal.returns-then-same_word
returns-then-same_word c = ((c.if-same_word.ensures).0 refl)

pub returns-then-same_word-2 : goal.returns-then-same_word-2
returns-then-same_word-2 c = ((c.if-same_word-2.ensures).0 refl)

pub returns-else-same_word-2 : goal.returns-else-same_word-2
returns-else-same_word-2 c = no_weigh _ (λ e. false≢true ((c.if-same_word.ensures).1 e)) (λ e. false≢true ((c.if-same_word-2.ensures).1 e))
