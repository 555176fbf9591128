-- Where reading stops the bytes are refused; where it ends, the table or what the items give decides.
use Rattle.cs_yacc.proofs.OnReading.Whole.{read_accepted_or_refused}
use Rattle.cs_yacc.proofs.reading.laws.accepted_or_refused.Goals as goal

pub returns : goal.returns
returns c = read_accepted_or_refused c.args.bytes.now c.read_or_stopped.ensures
