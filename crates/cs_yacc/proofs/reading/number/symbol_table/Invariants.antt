use Rattle.std.proofs.Common.{◌≡◌, take}
use Rattle.cs_yacc.specs.Reading.Meaning.{symbols_in}
use Rattle.cs_yacc.specs.Reading.AcceptedView.{parts_at}
use Rattle.cs_yacc.specs.Reading.SpellingView.{spellings_of}
use Rattle.cs_yacc.proofs.reading.number.symbol_table.Given as goal

abbrev pub invariant-loop-spelling : goal.invariant-loop-spelling
invariant-loop-spelling l = l.symbols.items ≡ symbols_in (parts_at l.file) (spellings_of (take l.spelling-index l.spelling-items))
