use Rattle.std.proofs.Common.{◌∷◌}
use Rattle.cs_yacc.specs.Reading.Meaning.{declared, error_spelling}
use Rattle.cs_yacc.specs.Reading.SpellingView.{items_in}
use Rattle.cs_yacc.proofs.OnReading.Gathering.{Gathers}
use Rattle.cs_yacc.proofs.OnReading.Loops.{rest_at}
use Rattle.cs_yacc.proofs.reading.gather.declared.Given as goal

abbrev pub invariant-loop-index : goal.invariant-loop-index
invariant-loop-index l = Gathers l.spellings (declared (rest_at l.items l.index)) (error_spelling ∷ declared (items_in l.items))
