-- Files have one list of contents with one meaning, and of that a command but `member` has one text at most.
use Rattle.cs_run.proofs.OnCommand.OneText.{one_text}
use Rattle.cs_run.proofs.command.laws.one_asked_text.Goals as goal

pub returns : goal.returns
returns c = one_text c.one_manifest.ensures c.one_lexical_text.ensures c.one_spelling.ensures c.one_deep.ensures c.one_chains_text.ensures c.one_wrong_text.ensures c.one_check_text.ensures
