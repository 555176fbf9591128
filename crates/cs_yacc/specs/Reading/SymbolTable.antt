-- A table of symbols.
use Rattle.std.specs.Prelude.{◌≡◌, ℕ, List, get_or}
use Rattle.cs_grammar.specs.declared.symbol.Symbol.{Symbol}
use Rattle.cs_grammar.specs.declared.symbol.Symbol.TheVariants.{Token}
use Rattle.cs_yacc.specs.declared.reading.accepted.Accepted as code
use Rattle.cs_yacc.specs.Reading.Meaning.{symbols_in}
use Rattle.cs_yacc.specs.Reading.AcceptedView.{parts_at, words_at}

-- the symbol at a place of the table
abbrev pub symbol_at : List Symbol → ℕ → Symbol
symbol_at table k = get_or table k (Token 0)

-- the symbols of all spellings of the file, in their order
abbrev pub IsTable : List Symbol → code.Accepted → Type 0
IsTable table f = table ≡ symbols_in (parts_at f) (words_at f)
