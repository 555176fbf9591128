-- By the law on poisoned pairs, or by membership over all trees.
use Rattle.std.proofs.Common.{[]}
use Rattle.cs_wrong.proofs.OnClasses.Told.{no_sentence}
use Rattle.cs_wrong.proofs.OnWriting.OneWrong.{none_sentences}
use Rattle.cs_wrong.specs.Classes.Classes.{behind}
use Rattle.cs_wrong.specs.Slips.Slips.{slips}
use Rattle.cs_wrong.specs.Writing.Text.{weighed_by}
use Rattle.cs_wrong.proofs.writing.laws.wrong_lists_are_no_sentences.Goals as goal

pub returns-clause-slips : goal.returns-clause-slips
returns-clause-slips c v earlier slip = no_sentence v earlier slip

pub returns-clause-texts : goal.returns-clause-texts
returns-clause-texts c file chosen texts weigh text is =
    none_sentences texts is.lexemes (weighed_by weigh file is.lexemes) (behind [] (slips file.grammar chosen)) is.entries is.slips
