-- The set takes a name as new where no name before it is the same.
use Rattle.std.proofs.Common.{◌∙◌, ap, not}
use Rattle.cs_lex.proofs.OnLayout.NameTables.{has_is}
use Rattle.cs_lex.proofs.layout.names.add_name.Goals as goal

pub returns-clause-new : goal.returns-clause-new
returns-clause-new c = c.in_ok-insert.ensures.added ∙ ap not (has_is c.args.name.now c.args.names.now.keys)
