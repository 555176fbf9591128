use Rattle.std.proofs.Common.{◌≡◌}
use Rattle.cs_yacc.specs.Reading.Meaning.{listed}
use Rattle.cs_yacc.specs.Reading.SpellingView.{items_in, and_all}
use Rattle.cs_yacc.proofs.OnReading.Loops.{rest_at}
use Rattle.cs_yacc.proofs.reading.gather.add_listed.Given as goal

abbrev pub invariant-loop-placed : goal.invariant-loop-placed
invariant-loop-placed l =
    and_all l.spellings (listed (rest_at l.items l.placed-index)) ≡ and_all l.fn.spellings (listed (items_in l.items))
