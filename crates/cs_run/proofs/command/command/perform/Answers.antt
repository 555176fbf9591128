-- Bad words are no request, and one request alone is asked for.
use Rattle.std.proofs.Common.{Ok}
use Rattle.cs_words.specs.Requests.{plain_request}
use Rattle.cs_words.specs.Words.{texts}
use Rattle.cs_words.proofs.OneBad.{bad_not_accepted}
use Rattle.cs_run.proofs.OnCommand.Performing.{no_files_so}
use Rattle.cs_run.proofs.command.command.perform.Goals as goal

pub returns-in-Ok-clause-performs : goal.returns-in-Ok-clause-performs
returns-in-Ok-clause-performs g c = (Ok (plain_request c.in-Ok.request), (c.in-Ok.ensures.accepted, c.in-Ok.ensures.asked), c.fulfil.ensures.performs)

pub returns-in-Ok-clause-bad_words_ask_nothing : goal.returns-in-Ok-clause-bad_words_ask_nothing
returns-in-Ok-clause-bad_words_ask_nothing g c = λ bad. absurd (bad_not_accepted _ bad.0 bad.1 c.in-Ok.ensures.accepted)

pub returns-in-Ok-clause-no_files_ask_nothing : goal.returns-in-Ok-clause-no_files_ask_nothing
returns-in-Ok-clause-no_files_ask_nothing g c =
    no_files_so (texts c.args.words.now) (plain_request c.in-Ok.request) c.args.desk.now c.fulfil.new.desk (c.in-Ok.ensures.accepted, c.in-Ok.ensures.asked) c.fulfil.ensures.no_files_ask_nothing
