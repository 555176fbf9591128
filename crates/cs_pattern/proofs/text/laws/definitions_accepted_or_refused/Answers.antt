-- A text stops, else a name is undefined, else uses are cyclic, else a limit is passed; else all are accepted.
use Rattle.cs_pattern.proofs.OnText.DefinitionsSettled as settled
use Rattle.cs_pattern.proofs.text.laws.definitions_accepted_or_refused.Goals as goal

pub returns : goal.returns
returns c = settled.accepted_or_refused
