-- The number gets a place past all lists, and a list that has the row alone.
use Rattle.std.proofs.Common.{◌≡◌, List, [], ◌∷◌, ◌++◌, length, set, sym, ap, ◌∙◌, subst, arith}
use Rattle.std.specs.Global.{Vec}
use Rattle.std.proofs.lemmas.Option.{slice_get_within}
use Rattle.cs_member.specs.declared.chart.chart.Row.{Row}
use Rattle.cs_member.specs.Tables.Adding.{IsAdded}
use Rattle.cs_member.specs.Chart.Buckets.{ArePlaces, lists_by}
use Rattle.cs_member.proofs.OnChart.Placing.{added_new, places_new}
use Rattle.cs_member.proofs.chart.buckets.Buckets.add_first.Goals as goal

pub index_mut-requires : goal.index_mut-requires
index_mut-requires c =
    let lt = slice_get_within c.args.self.now.places.items c.args.number 0 c.requires.number in
    let long = c.args.self.now.places.ok.0 in
    omega arith

pub returns-clause-buckets : goal.returns-clause-buckets
returns-clause-buckets c =
    let places = c.args.self.now.places.items in
    let lists = c.args.self.now.lists.items in
    let list : Vec Row = c.push.new.self in
    let same : c.len-last.result ≡ length lists = c.len-last.ensures ∙ c.args.self.now.lists.ok.0 in
    subst (λ n. ArePlaces (set places c.args.number n) c.push-2.new.self.items) (sym same)
    (subst (λ (l : List (Vec Row)). ArePlaces (set places c.args.number (length lists)) l) (sym c.in_ok-push-2.ensures.items) (places_new places lists c.args.number list c.requires.buckets))

pub returns-clause-added : goal.returns-clause-added
returns-clause-added c =
    let places = c.args.self.now.places.items in
    let lists = c.args.self.now.lists.items in
    let list : Vec Row = c.push.new.self in
    let same : c.len-last.result ≡ length lists = c.len-last.ensures ∙ c.args.self.now.lists.ok.0 in
    let items : list.items ≡ c.args.row ∷ [] = c.in_ok-push.ensures.items ∙ ap (λ (l : List Row). l ++ c.args.row ∷ []) c.new-list.ensures.items in
    subst (λ n. IsAdded c.args.number c.args.row (lists_by places lists) (lists_by (set places c.args.number n) c.push-2.new.self.items)) (sym same)
    (subst (λ (l : List (Vec Row)). IsAdded c.args.number c.args.row (lists_by places lists) (lists_by (set places c.args.number (length lists)) l)) (sym c.in_ok-push-2.ensures.items) (added_new places lists c.args.number c.args.row list c.requires.buckets c.requires.number items))
