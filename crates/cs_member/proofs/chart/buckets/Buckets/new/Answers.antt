-- Each number has the first list, which is empty.
use Rattle.std.proofs.Common.{◌≡◌, ◌+◌, ℕ, List, [], ◌∷◌, length, replicate, sym, ap, ◌∙◌, subst, arith, ◌++◌}
use Rattle.std.specs.Global.{Vec}
use Rattle.std.proofs.lemmas.List.{length-replicate}
use Rattle.cs_member.specs.declared.chart.chart.Row.{Row}
use Rattle.cs_member.specs.Tables.Asked.{AreEmptyLists}
use Rattle.cs_member.specs.Chart.Buckets.{ArePlaces, lists_by}
use Rattle.cs_member.proofs.OnChart.Placing.{places_none, empty_by, length_by}
use Rattle.cs_member.proofs.chart.buckets.Buckets.new.Goals as goal

pub returns-clause-buckets : goal.returns-clause-buckets
returns-clause-buckets c =
    let many : ℕ = c.args.last + 1 in
    let none : Vec Row = c.new.result in
    let is : c.in_ok-places.places.items ≡ replicate many 0 = c.in_ok-places.ensures.items_if_clones_equal (λ y e. e) in
    let lists : c.push.new.self.items ≡ none ∷ [] = c.in_ok-push.ensures.items ∙ ap (λ (l : List (Vec Row)). l ++ none ∷ []) c.new-lists.ensures.items in
    subst (λ (l : List (Vec Row)). ArePlaces c.in_ok-places.places.items l) (sym lists)
    (subst (λ (l : List ℕ). ArePlaces l (none ∷ [])) (sym is) (places_none many none c.new.ensures.items))

pub returns-clause-empty : goal.returns-clause-empty
returns-clause-empty c =
    let many : ℕ = c.args.last + 1 in
    let none : Vec Row = c.new.result in
    let is : c.in_ok-places.places.items ≡ replicate many 0 = c.in_ok-places.ensures.items_if_clones_equal (λ y e. e) in
    let lists : c.push.new.self.items ≡ none ∷ [] = c.in_ok-push.ensures.items ∙ ap (λ (l : List (Vec Row)). l ++ none ∷ []) c.new-lists.ensures.items in
    subst (λ (l : List (Vec Row)). AreEmptyLists (lists_by c.in_ok-places.places.items l)) (sym lists)
    (subst (λ (l : List ℕ). AreEmptyLists (lists_by l (none ∷ []))) (sym is) (empty_by many none c.new.ensures.items))

pub returns-clause-size : goal.returns-clause-size
returns-clause-size c =
    let many : ℕ = c.args.last + 1 in
    let none : Vec Row = c.new.result in
    let is : c.in_ok-places.places.items ≡ replicate many 0 = c.in_ok-places.ensures.items_if_clones_equal (λ y e. e) in
    let lists : c.push.new.self.items ≡ none ∷ [] = c.in_ok-push.ensures.items ∙ ap (λ (l : List (Vec Row)). l ++ none ∷ []) c.new-lists.ensures.items in
    subst (λ (l : List (Vec Row)). length (lists_by c.in_ok-places.places.items l) ≡ many) (sym lists)
    (length_by c.in_ok-places.places.items (none ∷ []) (omega arith) ∙ (ap (λ (l : List ℕ). length l) is ∙ length-replicate many 0))
