-- The row is put last in the number's list, or is the first of a list of its own.
use Rattle.std.proofs.Common.{◌≡◌, Some, refl, ap, ◌∙◌, arith}
use Rattle.std.specs.Prelude.{slice_get}
use Rattle.std.proofs.lemmas.Option.{slice_get_read}
use Rattle.cs_member.proofs.OnChart.Placing.{added_old, places_old, length_by}
use Rattle.cs_member.proofs.chart.buckets.Buckets.add.Goals as goal

pub index-place-requires : goal.index-place-requires
index-place-requires c =
    let long = length_by c.args.self.now.places.items c.args.self.now.lists.items c.requires.buckets.some in
    let lt = c.requires.number in
    omega arith

pub add_first-requires-clause-number : goal.add_first-requires-clause-number
add_first-requires-clause-number c =
    let places = c.args.self.now.places.items in
    let n = c.args.number in
    let k = c.index-place.result.now in
    let long = length_by places c.args.self.now.lists.items c.requires.buckets.some in
    let lt = c.requires.number in
    let at : slice_get places n ≡ Some k = slice_get_read places _ n k refl (omega arith) c.index-place.ensures in
    at ∙ ap Some c.if-place-eq0.true

pub add_at-requires : goal.add_at-requires
add_at-requires c =
    let places = c.args.self.now.places.items in
    let n = c.args.number in
    let k = c.index-place.result.now in
    let long = length_by places c.args.self.now.lists.items c.requires.buckets.some in
    let lt = c.requires.number in
    let at : slice_get places n ≡ Some k = slice_get_read places _ n k refl (omega arith) c.index-place.ensures in
    c.requires.buckets.within n k at

pub returns-clause-buckets : goal.returns-clause-buckets
returns-clause-buckets c =
    let places = c.args.self.now.places.items in
    let lists = c.args.self.now.lists.items in
    let k = c.index-place.result.now in
    let other = c.if-place-eq0.false in
    places_old places lists c.add_at.new.lists.items k c.args.row c.requires.buckets (omega arith) c.in_ok-add_at.ensures

pub returns-clause-added : goal.returns-clause-added
returns-clause-added c =
    let places = c.args.self.now.places.items in
    let lists = c.args.self.now.lists.items in
    let n = c.args.number in
    let k = c.index-place.result.now in
    let long = length_by places lists c.requires.buckets.some in
    let lt = c.requires.number in
    let at : slice_get places n ≡ Some k = slice_get_read places _ n k refl (omega arith) c.index-place.ensures in
    let other = c.if-place-eq0.false in
    added_old places lists c.add_at.new.lists.items n k c.args.row c.requires.buckets at (omega arith) c.in_ok-add_at.ensures
