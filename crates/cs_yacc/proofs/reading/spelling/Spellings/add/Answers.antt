-- The set puts a missing key last, and its keys are the spellings.
use Rattle.std.proofs.Common.{◌∙◌, ap}
use Rattle.cs_yacc.specs.Reading.SpellingView.{spelling_of, spellings_of, and_one}
use Rattle.cs_yacc.proofs.OnReading.Gathering.{insert_is}
use Rattle.cs_yacc.proofs.reading.spelling.Spellings.add.Goals as goal

pub returns : goal.returns
returns c =
    ap spellings_of c.in_ok-insert.ensures.keys ∙ (insert_is c.self.inside.set.keys c.args.spelling ∙ ap (λ ss. and_one ss (spelling_of c.args.spelling)) c.self.view_is)
