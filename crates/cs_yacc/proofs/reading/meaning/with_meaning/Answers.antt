-- One item more is kept in front, with its place, or left out; its spelling is gathered either way.
use Rattle.std.proofs.Common.{◌≡◌, ◌+◌, ◌++◌, ◌∷◌, [], take, drop, refl, sym, subst, ap, ◌∙◌, arith}
use Rattle.std.specs.Prelude.{List}
use Rattle.std.proofs.lemmas.Grind.{common_steps}
use Rattle.cs_yacc.specs.declared.items.item.Placed as held
use Rattle.cs_yacc.specs.Items.Items.{items_of}
use Rattle.cs_yacc.specs.Items.Views.{item_of, placed_all}
use Rattle.cs_yacc.specs.Reading.Meaning.{spelling_at, spelled}
use Rattle.cs_yacc.specs.Reading.Places.{ArePlaces}
use Rattle.cs_yacc.specs.Reading.SpellingView.{items_in}
use Rattle.cs_yacc.proofs.OnReading.Counts.{few_gathered, few_held}
use Rattle.cs_yacc.proofs.OnReading.Gathering.{Gathers}
use Rattle.cs_yacc.proofs.OnReading.Loops.{rest_at, gather_step}
use Rattle.cs_yacc.proofs.OnReading.Places.{places_kept, places_push, drop_next}
use Rattle.cs_yacc.proofs.reading.meaning.with_meaning.Goals as goal
use Rattle.cs_yacc.proofs.reading.meaning.with_meaning.Goals.{then-has_meaning+in_ok-push, else-has_meaning}

pub place_of-requires : goal.place_of-requires
place_of-requires c =
    omega (arith, few_gathered c.loop-index.words (spelled (rest_at c.loop-index.items.items c.loop-index.index)) (items_in c.args.items.items) c.loop-index.invariant.4, few_held c.args.items.items, c.requires)

pub loop-index-preserved : goal.loop-index-preserved
loop-index-preserved c =
    let p = c.index-placed.result.now in
    let items = c.loop-index.items.items in
    let n = c.loop-index.index in
    let words = c.place_of.new.self in
    let rest : drop (n + 1) c.if-has_meaning.items.items ≡ drop (n + 1) c.args.items.items = grind (arith, common_steps) in
    let gathered : Gathers words (spelled (rest_at items (n + 1))) (spelled (items_in c.args.items.items)) =
    gather_step (λ i _. spelling_at i) items n p _ _ (spelling_at (item_of p.item)) _ (drop (n + 1) items) c.loop-index.invariant.4 (grind (arith, common_steps)) refl (ap (λ (q : held.Placed). spelling_at (item_of q.item)) c.index-placed.ensures) c.in_ok-place.ensures.words in
    let before : ArePlaces words (items_in (take c.loop-index.kept items)) c.loop-index.places.items =
    places_kept c.loop-index.words words (spelling_at (item_of p.item)) (items_in (take c.loop-index.kept items)) c.loop-index.places.items c.in_ok-place.ensures.words c.loop-index.invariant.5 in (
      grind (arith, common_steps),
      grind (arith, common_steps),
      rest,
      grind (arith, common_steps),
      subst (λ (xs : List held.Placed). Gathers words (spelled (items_of (placed_all xs))) (spelled (items_in c.args.items.items))) (drop_next items c.args.items.items n c.loop-index.invariant.2 ∙ sym rest) gathered,
      elim c.if-has_meaning.branch [
        | then-has_meaning+in_ok-push w ↦
            let taken : take c.if-has_meaning.kept c.if-has_meaning.items.items ≡ take c.loop-index.kept items ++ p ∷ [] = grind (arith, common_steps) in
            places_push words (take c.loop-index.kept items) _ p c.loop-index.places.items _ c.in_ok-place.place taken before c.in_ok-place.ensures.place (ap (λ v. v.items) w.places-is ∙ w.in_ok-push.ensures.items)
        | else-has_meaning w ↦ rw (w.items-is, w.places-is, w.kept-is) before
      ],
    )
