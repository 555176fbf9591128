use Rattle.std.proofs.Common.{◌≡◌, take, map}
use Rattle.cs_yacc.specs.Reading.SymbolTable.{symbol_at}
use Rattle.cs_yacc.proofs.reading.number.symbols.Given as goal

abbrev pub invariant-loop-place : goal.invariant-loop-place
invariant-loop-place l = l.symbols.items ≡ map (symbol_at l.table) (take l.place-index l.places)
