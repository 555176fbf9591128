use Rattle.std.proofs.Common.{◌≡◌, map}
use Rattle.cs_lines.specs.Words.Names.{symbol_text}
use Rattle.cs_lines.specs.Lines.Read.{names_in}
use Rattle.cs_check.proofs.OnChecking.Comparing.{Compared}
use Rattle.cs_check.proofs.checking.texts.are_symbols.Given as goal

abbrev pub invariant-loop-symbol : goal.invariant-loop-symbol
invariant-loop-symbol l =
    Compared (symbol_text l.file) l.symbols (names_in l.names ≡ map (symbol_text l.file) l.symbols) l.symbol-index (names_in l.rest)
