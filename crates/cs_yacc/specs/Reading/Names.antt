-- The names of symbols and marks, as texts tell them.
use Rattle.std.specs.Prelude.{ℕ, ◌-◌, List, [], unwrap_or, slice_get, codes}
use Rattle.std.specs.Option.{option_map_or}
use Rattle.cs_grammar.specs.declared.symbol.Symbol.{Symbol}
use Rattle.cs_grammar.specs.declared.symbol.Symbol.TheVariants as symbols
use Rattle.cs_grammar.specs.declared.symbol.Mark.{Mark}
use Rattle.cs_grammar.specs.declared.symbol.Mark.TheVariants as marks
use Rattle.cs_yacc.specs.declared.reading.name.TokenName.{TokenName}
use Rattle.cs_yacc.specs.declared.reading.name.TokenName.TheVariants.{Word, Byte}
use Rattle.cs_yacc.specs.Reading.File.{File}
use Rattle.cs_bytes.specs.Escapes.{literal}

-- a token's name: its word, or its byte between single quotes
abbrev pub token_text : TokenName → List ℕ
token_text (Word name) = name
token_text (Byte b) = literal b

-- the name of token t; numbers count from 1
abbrev pub token_of : File → ℕ → List ℕ
token_of file t = option_map_or token_text (slice_get file.token_names (t - 1)) []

abbrev pub nonterminal_of : File → ℕ → List ℕ
nonterminal_of file n = unwrap_or (slice_get file.nonterminal_names (n - 1)) []

abbrev pub symbol_text : File → Symbol → List ℕ
symbol_text file (symbols.Token t) = token_of file t
symbol_text file (symbols.Nonterminal n) = nonterminal_of file n

abbrev pub mark_text : File → Mark → List ℕ
mark_text file marks.Begin = codes "<begin>"
mark_text file (marks.Token t) = token_of file t
mark_text file marks.End = codes "<end>"
