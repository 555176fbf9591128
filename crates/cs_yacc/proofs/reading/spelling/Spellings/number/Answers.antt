-- The number is one more than the place, which is at most the count of spellings.
use Rattle.std.proofs.Common.{◌∙◌, refl, arith, add-one}
use Rattle.cs_yacc.specs.Reading.SpellingView.{spelling_of}
use Rattle.cs_yacc.proofs.OnReading.Numbers.{place_within}
use Rattle.cs_yacc.proofs.reading.spelling.Spellings.number.Goals as goal

pub number_of-requires : goal.number_of-requires
number_of-requires c = omega (arith, c.find.ensures, place_within c.args.self.now (spelling_of c.args.spelling), c.requires)

pub returns : goal.returns
returns c = c.number_of.ensures ∙ rw (add-one, c.find.ensures) refl
