-- The table of words finds the number of each word that is a name, and of no other.
use Rattle.std.proofs.Common.{◌∙◌}
use Rattle.cs_yacc.specs.declared.reading.name.TokenName.TheVariants.{Word}
use Rattle.cs_yacc.specs.Reading.TokenNumbers.{number_at_word}
use Rattle.cs_yacc.proofs.OnReading.TokenTables.{found_is, none_is}
use Rattle.cs_yacc.proofs.reading.token_names.TokenNames.word.Goals as goal

pub returns-clause-found : goal.returns-clause-found
returns-clause-found c = rw (← c.self.view_is) (found_is Word c.self.inside.names.items (number_at_word c.self.inside.words.entries) c.self.invariant.0 c.args.name.now c.copied.result (c.copied.ensures ∙ c.get.ensures.value))

pub returns-clause-none : goal.returns-clause-none
returns-clause-none c = rw (← c.self.view_is) (none_is Word c.self.inside.names.items (number_at_word c.self.inside.words.entries) c.self.invariant.0 c.args.name.now c.copied.result (c.copied.ensures ∙ c.get.ensures.value))
