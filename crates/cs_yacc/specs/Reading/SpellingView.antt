-- What the code's spellings are.
use Rattle.std.specs.Prelude.{List, map, Option, option_map}
use Rattle.std.specs.Option.{option_to_list}
use Rattle.indexmap.specs.IndexSet.{insert_key, insert_all}
use Rattle.cs_yacc.specs.declared.reading.spelling.Spelling as code
use Rattle.cs_yacc.specs.declared.reading.spelling.Spelling.TheVariants as variants
use Rattle.cs_yacc.specs.declared.reading.name.TokenName.{TokenName}
use Rattle.cs_yacc.specs.declared.reading.name.TokenName.TheVariants.{Word, Byte}
use Rattle.cs_yacc.specs.Items.Items.{Item, items_of}
use Rattle.cs_yacc.specs.declared.items.item.Placed as held
use Rattle.cs_yacc.specs.Items.Views.{placed_all}
use Rattle.cs_yacc.specs.Reading.Meaning.{same_spelling}

abbrev pub spelling_of : code.Spelling → TokenName
spelling_of (variants.Named n) = Word n.now
spelling_of (variants.Quoted b) = Byte b

abbrev pub spellings_of : List code.Spelling → List TokenName
spellings_of = map spelling_of

abbrev pub spellings_in : Option code.Spelling → List TokenName
spellings_in w = spellings_of (option_to_list w)

abbrev pub and_one : List TokenName → TokenName → List TokenName
and_one spellings one = insert_key same_spelling spellings one

-- these, and then the further ones that they lack
abbrev pub and_all : List TokenName → List TokenName → List TokenName
and_all spellings more = insert_all same_spelling spellings more

abbrev pub items_in : List held.Placed → List Item
items_in ps = items_of (placed_all ps)

abbrev pub left_of : Option code.Spelling → Option TokenName
left_of left = option_map spelling_of left
