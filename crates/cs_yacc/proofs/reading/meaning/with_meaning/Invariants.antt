use Rattle.std.proofs.Common.{◌≡◌, ◌≤◌, ◌++◌, take, drop, length}
use Rattle.std.specs.Prelude.{option_map}
use Rattle.cs_yacc.specs.Reading.Meaning.{spelled, with_meaning, with_meaning_behind}
use Rattle.cs_yacc.specs.Reading.Places.{ArePlaces}
use Rattle.cs_yacc.specs.Reading.SpellingView.{items_in}
use Rattle.cs_yacc.specs.Items.Views.{item_of, placed_all}
use Rattle.cs_yacc.proofs.OnReading.Gathering.{Gathers}
use Rattle.cs_yacc.proofs.OnReading.Loops.{rest_at}
use Rattle.cs_yacc.proofs.reading.meaning.with_meaning.Given as goal

abbrev pub invariant-loop-index : goal.invariant-loop-index
invariant-loop-index l =
    (l.kept ≤ l.index)
    × (length l.items.items ≡ length l.fn.items.items)
    × (drop l.index l.items.items ≡ drop l.index l.fn.items.items)
    × (placed_all (take l.kept l.items.items) ++ with_meaning_behind (option_map item_of l.before) (placed_all (drop l.index l.fn.items.items)) ≡ with_meaning (placed_all l.fn.items.items))
    × Gathers l.words (spelled (rest_at l.items.items l.index)) (spelled (items_in l.fn.items.items))
    × ArePlaces l.words (items_in (take l.kept l.items.items)) l.places.items
