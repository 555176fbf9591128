use Rattle.std.proofs.Common.{drop}
use Rattle.cs_yacc.specs.Reading.Meaning.{left_sides}
use Rattle.cs_yacc.specs.Reading.SpellingView.{items_in}
use Rattle.cs_yacc.proofs.OnReading.Gathering.{Gathers}
use Rattle.cs_yacc.proofs.reading.gather.nonterminals.Given as goal

abbrev pub invariant-loop-index : goal.invariant-loop-index
invariant-loop-index l = Gathers l.spellings (left_sides (items_in (drop l.index l.items))) (left_sides (items_in l.items))
