-- The place of the spelling is that of its key in the set, or the count of keys where there is none.
use Rattle.std.proofs.Common.{◌∙◌, ap}
use Rattle.cs_yacc.specs.Reading.Places.{place_in}
use Rattle.cs_yacc.specs.Reading.SpellingView.{spelling_of}
use Rattle.cs_yacc.proofs.OnReading.Numbers.{place_is}
use Rattle.cs_yacc.proofs.reading.spelling.Spellings.find.Goals as goal

pub returns : goal.returns
returns c =
    place_is c.args.spelling c.self.inside.set.keys _ _ _ c.get_index_of.ensures.index c.unwrap_or.ensures c.len.ensures.len ∙ ap (λ ss. place_in ss (spelling_of c.args.spelling)) c.self.view_is
