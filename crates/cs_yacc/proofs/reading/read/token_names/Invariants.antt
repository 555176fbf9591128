use Rattle.std.proofs.Common.{◌≡◌, take}
use Rattle.cs_yacc.specs.Reading.SpellingView.{spellings_of}
use Rattle.cs_yacc.proofs.reading.read.token_names.Given as goal

abbrev pub invariant-loop-spelling : goal.invariant-loop-spelling
invariant-loop-spelling l = l.names.items ≡ spellings_of (take l.spelling-index l.spellings)
