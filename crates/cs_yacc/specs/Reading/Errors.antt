-- Errors of reading items, as errors of reading a file.
use Rattle.cs_yacc.specs.declared.items.error.ItemsError as items
use Rattle.cs_yacc.specs.declared.items.error.ItemsError.TheVariants as stops
use Rattle.cs_yacc.specs.declared.reading.error.YaccError.{YaccError}
use Rattle.cs_yacc.specs.declared.reading.error.YaccError.TheVariants.{BadItem, Unended, UnknownDirective, Memory}

-- the same error of a file
abbrev pub error_of : items.ItemsError → YaccError
error_of (stops.BadItem at) = BadItem at
error_of (stops.Unended at) = Unended at
error_of (stops.UnknownDirective at) = UnknownDirective at
error_of stops.Memory = Memory
