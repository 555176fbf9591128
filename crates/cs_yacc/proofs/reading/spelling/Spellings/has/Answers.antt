-- The spelling is one of the keys of the set.
use Rattle.std.proofs.Common.{◌∙◌, ap}
use Rattle.cs_yacc.specs.Reading.Meaning.{has_spelling}
use Rattle.cs_yacc.specs.Reading.SpellingView.{spelling_of}
use Rattle.cs_yacc.proofs.OnReading.Gathering.{has_is}
use Rattle.cs_yacc.proofs.reading.spelling.Spellings.has.Goals as goal

pub returns : goal.returns
returns c = c.contains.ensures ∙ (has_is c.args.spelling c.self.inside.set.keys ∙ ap (λ ss. has_spelling ss (spelling_of c.args.spelling)) c.self.view_is)
