use Rattle.std.proofs.Common.{◌≡◌, take, map}
use Rattle.cs_yacc.specs.Reading.Meaning.{bytes_of}
use Rattle.cs_yacc.specs.Reading.SpellingView.{spellings_of}
use Rattle.cs_yacc.proofs.reading.read.nonterminal_names.Given as goal

abbrev pub invariant-loop-spelling : goal.invariant-loop-spelling
invariant-loop-spelling l = l.names.items ≡ map bytes_of (spellings_of (take l.spelling-index l.spellings))
