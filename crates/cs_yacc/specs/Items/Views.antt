-- What the code's items are.
use Rattle.std.specs.Prelude.{List, map}
use Rattle.cs_yacc.specs.declared.items.item.Item as code
use Rattle.cs_yacc.specs.declared.items.item.Item.TheVariants as variants
use Rattle.cs_yacc.specs.declared.items.item.Placed as held
use Rattle.cs_yacc.specs.Items.Items.{Item, mark, prologue, directive, name, literal, number, tag, block, colon, semicolon, bar, comma, Placed}

abbrev pub item_of : code.Item → Item
item_of variants.Mark = mark
item_of variants.Prologue = prologue
item_of (variants.Directive d) = directive d
item_of (variants.Name n) = name n.now
item_of (variants.Literal b) = literal b
item_of variants.Number = number
item_of variants.Tag = tag
item_of variants.Block = block
item_of variants.Colon = colon
item_of variants.Semicolon = semicolon
item_of variants.Bar = bar
item_of variants.Comma = comma

abbrev pub placed_of : held.Placed → Placed
placed_of p = record { at = p.at; item = item_of p.item }

abbrev pub placed_all : List held.Placed → List Placed
placed_all = map placed_of
