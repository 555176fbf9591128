-- What the code's places are.
use Rattle.cs_yacc.specs.declared.items.table.Place as code
use Rattle.cs_yacc.specs.declared.items.table.Place.TheVariants as variants
use Rattle.cs_yacc.specs.Items.Table.{Place, declarations, start, union, expect, list, tagged, entry, counted, behind_comma, rules, left, body, named, prec, closed, done}

abbrev pub place_of : code.Place → Place
place_of variants.Declarations = declarations
place_of variants.Start = start
place_of variants.Union = union
place_of variants.Expect = expect
place_of variants.List = list
place_of variants.Tagged = tagged
place_of variants.Entry = entry
place_of variants.Counted = counted
place_of variants.Comma = behind_comma
place_of variants.Rules = rules
place_of variants.Left = left
place_of variants.Body = body
place_of variants.Named = named
place_of variants.Prec = prec
place_of variants.Closed = closed
place_of variants.Done = done
