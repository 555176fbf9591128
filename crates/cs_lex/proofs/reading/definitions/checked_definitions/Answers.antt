-- The fault's index is that of a definition, and the error is at the substitute of that one.
use Rattle.cs_lex.proofs.OnReading.DefinitionsFound.{refused_there}
use Rattle.cs_lex.proofs.reading.definitions.checked_definitions.Goals as goal

pub returns-in-Err-Fault-clause-refused : goal.returns-in-Err-Fault-clause-refused
returns-in-Err-Fault-clause-refused c = refused_there c.args.bytes.now c.args.all.now c.in_ok-definitions.definitions c.in-Err-Fault.index c.in-Err-Fault.fault _ c.in_ok-definitions.ensures (rw c.in-Err-Fault.field-0-is at c.in-Err-Fault.ensures.refused)
