-- The body is no longer than the items, and there is a place for each item.
use Rattle.std.proofs.Common.{arith}
use Rattle.std.proofs.lemmas.List.{length-take}
use Rattle.cs_yacc.specs.Reading.SpellingView.{items_in}
use Rattle.cs_yacc.proofs.OnReading.Counts.{few_body, few_held}
use Rattle.cs_yacc.proofs.reading.spelled.body.Goals as goal

pub slice_bounds-result-end : goal.slice_bounds-result-end
slice_bounds-result-end c =
    omega (arith, length-take c.body_len.result c.args.places.now, few_body (items_in c.args.items.now), few_held c.args.items.now, c.requires, c.body_len.ensures)
