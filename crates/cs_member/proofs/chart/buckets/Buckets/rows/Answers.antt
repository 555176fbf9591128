-- The number has a place among the lists, and the list there has its rows.
use Rattle.std.proofs.Common.{◌≡◌, Some, refl, arith}
use Rattle.std.specs.Prelude.{slice_get}
use Rattle.std.proofs.lemmas.Option.{slice_get_read}
use Rattle.cs_member.proofs.OnChart.Placing.{at_by, length_by}
use Rattle.cs_member.proofs.chart.buckets.Buckets.rows.Goals as goal

pub index-place-requires : goal.index-place-requires
index-place-requires c =
    let long = length_by c.args.self.now.places.items c.args.self.now.lists.items c.requires.buckets.some in
    let lt = c.requires.number in
    omega arith

pub index-requires : goal.index-requires
index-requires c =
    let places = c.args.self.now.places.items in
    let lists = c.args.self.now.lists.items in
    let n = c.args.number in
    let k = c.index-place.result.now in
    let long = length_by places lists c.requires.buckets.some in
    let lt = c.requires.number in
    let at : slice_get places n ≡ Some k = slice_get_read places _ n k refl (omega arith) c.index-place.ensures in
    let low = c.requires.buckets.within n k at in
    omega arith

pub returns : goal.returns
returns c =
    let places = c.args.self.now.places.items in
    let lists = c.args.self.now.lists.items in
    let n = c.args.number in
    let k = c.index-place.result.now in
    let list = c.index.result.now in
    let long = length_by places lists c.requires.buckets.some in
    let lt = c.requires.number in
    let at : slice_get places n ≡ Some k = slice_get_read places _ n k refl (omega arith) c.index-place.ensures in
    let low = c.requires.buckets.within n k at in
    let there : slice_get lists k ≡ Some list = slice_get_read lists _ k list refl low c.index.ensures in
    (list, at_by places lists n k list at there, c.deref.ensures.value)
