-- The place is that of the item's spelling; where the item has none, any place will do.
use Rattle.std.proofs.lemmas.Result.{IfOk-weaker}
use Rattle.cs_yacc.specs.Items.Views.{item_of}
use Rattle.cs_yacc.specs.Reading.SpellingView.{spelling_of}
use Rattle.cs_yacc.proofs.OnReading.Places.{has_place, no_place}
use Rattle.cs_yacc.proofs.reading.spelling.Spellings.place_of.Goals as goal

pub returns-in-Some-clause-place : goal.returns-in-Some-clause-place
returns-in-Some-clause-place c =
    IfOk-weaker c.place.result _ _ (λ k at. has_place _ (item_of c.args.item) k (spelling_of c.in-Some.spelling) c.in-Some.ensures at) c.place.ensures.place

pub returns-in-None-clause-place : goal.returns-in-None-clause-place
returns-in-None-clause-place c = no_place _ (item_of c.args.item) _ c.in-None.ensures
