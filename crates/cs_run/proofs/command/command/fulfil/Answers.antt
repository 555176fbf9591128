-- What is written of what the files mean is asked for, and where they aren't given nothing is written.
use Rattle.std.proofs.Common.{refl}
use Rattle.cs_words.specs.Requests.{files_in, plain_request}
use Rattle.cs_run.proofs.OnCommand.Performing.{performs_as, stopped_so, text_short}
use Rattle.cs_run.proofs.command.command.fulfil.Goals as goal

pub carry_out-requires-clause-short : goal.carry_out-requires-clause-short
carry_out-requires-clause-short g c = λ κs met. text_short (g.D.Desk.files c.args.desk.now) (files_in c.args.request.now) c.in-Ok.meant c.in-Ok.ensures.read

pub returns-in-Ok-clause-performs : goal.returns-in-Ok-clause-performs
returns-in-Ok-clause-performs g c =
    performs_as (plain_request c.args.request.now) c.in-Ok.meant _ _ c.carry_out.result c.in-Ok.ensures.read c.in-Ok.ensures.failed c.read_files.ensures.steady c.carry_out.ensures.writes

pub returns-in-Err-clause-performs : goal.returns-in-Err-clause-performs
returns-in-Err-clause-performs g c =
    stopped_so (plain_request c.args.request.now) c.in-Err.stop _ _ c.stopped.result c.stopped.ensures.ending c.in-Err.ensures.stops c.in-Err.ensures.failed c.read_files.ensures.steady (refl, refl)
