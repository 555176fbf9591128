-- Errors of layout, as errors of reading a file.
use Rattle.cs_lex.specs.declared.layout.error.LayoutError as layout
use Rattle.cs_lex.specs.declared.layout.error.LayoutError.TheVariants as stops
use Rattle.cs_lex.specs.declared.reading.error.LexError.{LexError}
use Rattle.cs_lex.specs.declared.reading.error.LexError.TheVariants.{Unended, Layout, UnknownDirective, UnknownOption, StartCondition, Memory}

-- an error of layout, as an error of the file
abbrev pub error_of : layout.LayoutError → LexError
error_of (stops.Unended at) = Unended at
error_of (stops.Layout at) = Layout at
error_of (stops.UnknownDirective at) = UnknownDirective at
error_of (stops.UnknownOption at) = UnknownOption at
error_of (stops.StartCondition at) = StartCondition at
error_of stops.Memory = Memory
