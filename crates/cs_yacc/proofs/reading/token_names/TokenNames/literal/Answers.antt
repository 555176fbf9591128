-- The table of literals finds the number of each byte that is a name, and of no other.
use Rattle.std.proofs.Common.{◌∙◌}
use Rattle.cs_yacc.specs.declared.reading.name.TokenName.TheVariants.{Byte}
use Rattle.cs_yacc.specs.Reading.TokenNumbers.{number_at_byte}
use Rattle.cs_yacc.proofs.OnReading.TokenTables.{found_is, none_is}
use Rattle.cs_yacc.proofs.reading.token_names.TokenNames.literal.Goals as goal

pub returns-clause-found : goal.returns-clause-found
returns-clause-found c = rw (← c.self.view_is) (found_is Byte c.self.inside.names.items (number_at_byte c.self.inside.literals.entries) c.self.invariant.1 c.args.byte c.copied.result (c.copied.ensures ∙ c.get.ensures.value))

pub returns-clause-none : goal.returns-clause-none
returns-clause-none c = rw (← c.self.view_is) (none_is Byte c.self.inside.names.items (number_at_byte c.self.inside.literals.entries) c.self.invariant.1 c.args.byte c.copied.result (c.copied.ensures ∙ c.get.ensures.value))
