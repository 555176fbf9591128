-- No name is undefined where none of the spellings is unknown.
use Rattle.std.proofs.Common.{◌≡◌, Bool, true, false, cond, List, [], ◌∷◌, refl, sym, ap, ◌∙◌}
use Rattle.std.specs.Prelude.{None}
use Rattle.std.specs.List.{All, list_any}
use Rattle.std.proofs.lemmas.Bool.{false≢true}
use Rattle.std.proofs.lemmas.List.Elements.{All-head, All-weaker}
use Rattle.cs_yacc.specs.Items.Items.{Item, name, Placed, items_of}
use Rattle.cs_yacc.specs.declared.reading.name.TokenName.{TokenName}
use Rattle.cs_yacc.specs.declared.reading.name.TokenName.TheVariants.{Word}
use Rattle.cs_yacc.specs.Reading.Meaning.{same_spelling, spelled, is_mark, behind_mark, is_undefined, first_undefined}
use Rattle.cs_yacc.specs.Reading.Finding.{is_unknown, HoldsSpellings}
use Rattle.cs_yacc.proofs.OnReading.Gathering.{same_is}
use Rattle.cs_yacc.proofs.OnReading.Names.{IsIn, spelled_tail}

-- a spelling among those of which none passes doesn't pass
none_passes : (p : TokenName → Bool) (ws : List TokenName) (w : TokenName) → list_any p ws ≡ false → IsIn ws w → p w ≡ false
none_passes p [] w none there = absurd (false≢true there)
none_passes p (v ∷ ws) w none there = step (p v) refl (same_spelling w v) refl none there (none_passes p ws w)
  where
    step : (a : Bool) → p v ≡ a → (b : Bool) → same_spelling w v ≡ b → list_any p (v ∷ ws) ≡ false → IsIn (v ∷ ws) w → (list_any p ws ≡ false → IsIn ws w → p w ≡ false) → p w ≡ false
    step true e b f n t rest = let passes : true ≡ false = rw e at n in absurd (false≢true (sym passes))
    step false e true f n t rest = ap p (same_is w v f) ∙ e
    step false e false f n t rest = let none_left : list_any p ws ≡ false = rw e at n in let tail : IsIn ws w = rw f at t in rest none_left tail

module _ (declared lefts : List TokenName) where
  abbrev IsKnown : TokenName → Type 0
  IsKnown w = is_unknown declared lefts w ≡ false

  item_known : (i : Item) (items : List Item) → All IsKnown (spelled (i ∷ items)) → is_undefined declared lefts i ≡ false
  item_known (name n) items h = All-head IsKnown (Word n) (spelled items) h
  item_known i items h = refl

  none_undefined : (ps : List Placed) → All IsKnown (spelled (items_of ps)) → first_undefined declared lefts ps ≡ None
  none_undefined [] h = refl
  none_undefined (p ∷ ps) h = rw (item_known p.item (items_of ps) h) (none_undefined ps (spelled_tail IsKnown p.item (items_of ps) h))

  known_behind : (ps : List Placed) → All IsKnown (spelled (items_of ps)) → All IsKnown (spelled (items_of (behind_mark ps)))
  known_behind [] h = h
  known_behind (p ∷ ps) h = step (is_mark p.item) (spelled_tail IsKnown p.item (items_of ps) h) (known_behind ps (spelled_tail IsKnown p.item (items_of ps) h))
    where
      step : (b : Bool) → All IsKnown (spelled (items_of ps)) → All IsKnown (spelled (items_of (behind_mark ps))) → All IsKnown (spelled (items_of (cond b ps (behind_mark ps))))
      step true g rest = g
      step false g rest = rest

  pub all_known : (words : List TokenName) (ps : List Placed) → list_any (is_unknown declared lefts) words ≡ false → HoldsSpellings words (items_of ps) → None ≡ first_undefined declared lefts (behind_mark ps)
  all_known words ps none there =
      sym (none_undefined (behind_mark ps) (known_behind ps (All-weaker (IsIn words) IsKnown (λ w t. none_passes (is_unknown declared lefts) words w none t) (spelled (items_of ps)) there)))
