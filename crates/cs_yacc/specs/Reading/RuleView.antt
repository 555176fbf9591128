-- What the code's rules are.
use Rattle.std.specs.Prelude.{◌≡◌, Bool, true, false, suc, List, [], ◌∷◌, ◌++◌, length, filter, map, Option, Some, None, if◌then◌else◌}
use Rattle.std.specs.Global.{Vec}
use Rattle.cs_yacc.specs.declared.reading.spelled.SpelledRule as held
use Rattle.cs_yacc.specs.declared.reading.spelling.Spelling as code
use Rattle.cs_yacc.specs.declared.reading.name.TokenName.{TokenName}
use Rattle.cs_yacc.specs.declared.reading.name.TokenName.TheVariants.{Word}
use Rattle.cs_yacc.specs.Items.Items.{Item, name, colon, bar}
use Rattle.cs_yacc.specs.Reading.Meaning.{SpelledRule, body, begins_with_colon, is_kept}
use Rattle.cs_yacc.specs.declared.items.item.Item as items
use Rattle.cs_yacc.specs.declared.items.item.Placed as items_held
use Rattle.cs_yacc.specs.Items.Views.{item_of}
use Rattle.cs_yacc.specs.Reading.SpellingView.{spelling_of, left_of, items_in}
use Rattle.cs_yacc.specs.Reading.Places.{names_at}

-- a rule whose body is given by places in this list
abbrev pub rule_of : List TokenName → held.SpelledRule → SpelledRule
rule_of words r = record { left = spelling_of r.left; right = names_at words r.right.now }

abbrev pub rules_in : List TokenName → List held.SpelledRule → List SpelledRule
rules_in words rules = map (rule_of words) rules

-- the rule that an item opens, where a left side stands before
abbrev pub opened : Option TokenName → Item → List Item → List SpelledRule
opened (Some left) colon items = record { left = left; right = body items } ∷ []
opened (Some left) bar items = record { left = left; right = body items } ∷ []
opened left i items = []

-- the left side of the bodies behind an item
abbrev pub next_left : Option TokenName → Item → List Item → Option TokenName
next_left left (name n) items = if begins_with_colon items then Some (Word n) else left
next_left left i items = left

-- what the code says of the item that stands next: its body has it and goes on, or ends before it
abbrev pub GoesOn : Bool → Item → List Item → Type 0
GoesOn true i items = length (body (i ∷ items)) ≡ suc (length (body items))
GoesOn false i items = body (i ∷ items) ≡ []

-- what the code says of the item behind this left side: it opens a body of this one, or none
abbrev pub Opens : Option code.Spelling → Option code.Spelling → items.Item → Type 0
Opens None left item = (rest : List Item) → opened (left_of left) (item_of item) rest ≡ []
Opens (Some w) left item = (rest : List Item) → opened (left_of left) (item_of item) rest ≡ record { left = spelling_of w; right = body rest } ∷ []

-- to the rules the one is added that an item opens behind this left side, if it is kept
abbrev pub AddsRule : List TokenName → Vec held.SpelledRule → Vec held.SpelledRule → Option code.Spelling → items.Item → List items_held.Placed → Type 0
AddsRule words was now left item rest = rules_in words now.items ≡ rules_in words was.items ++ filter is_kept (opened (left_of left) (item_of item) (items_in rest))
