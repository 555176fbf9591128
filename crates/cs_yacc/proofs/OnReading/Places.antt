-- Places of spellings.
use Rattle.std.proofs.Common.{◌≡◌, ℕ, zero, suc, ◌+◌, ◌-◌, ◌<◌, Bool, true, false, cond, List, [], ◌∷◌, ◌++◌, length, take, drop, refl, sym, ap, ◌∙◌}
use Rattle.std.specs.Prelude.{Some, slice_get}
use Rattle.std.specs.List.{All, list_any}
use Rattle.std.proofs.lemmas.Option.{none-some, get_or_from_slice_get, slice_get_within}
use Rattle.std.proofs.lemmas.List.{map_push, drop-drop, take_rest}
use Rattle.std.proofs.lemmas.List.Elements.{All-nil, All-cons}
use Rattle.std.proofs.lemmas.Slice.Zip.{AllZip-long, all_zipped_more}
use Rattle.indexmap.specs.IndexSet.{insert_key, insert_all}
use Rattle.cs_yacc.specs.Items.Items.{Item, name, literal, Placed, items_of}
use Rattle.cs_yacc.specs.Items.Views.{item_of, placed_of, placed_all}
use Rattle.cs_yacc.specs.declared.items.item.Placed as held
use Rattle.cs_yacc.specs.declared.reading.name.TokenName.{TokenName}
use Rattle.cs_yacc.specs.declared.reading.name.TokenName.TheVariants.{Word, Byte}
use Rattle.cs_yacc.specs.Reading.Meaning.{same_spelling, spelling_at, body, begins_with_colon}
use Rattle.cs_yacc.specs.Reading.Places.{names_at, IsPlace, ArePlaces}
use Rattle.cs_yacc.proofs.OnReading.Counts.{few_held}

-- ---- one place

pub has_place : (words : List TokenName) (i : Item) (k : ℕ) (w : TokenName) → w ∷ [] ≡ spelling_at i → slice_get words k ≡ Some w → IsPlace words i k
has_place words (name n) k w e at = let is : w ≡ Word n = cc in at ∙ ap Some is
has_place words (literal b) k w e at = let is : w ≡ Byte b = cc in at ∙ ap Some is
has_place words i k w e at = tt

pub no_place : (words : List TokenName) (i : Item) (k : ℕ) → [] ≡ spelling_at i → IsPlace words i k
no_place words (name n) k e = absurd cc
no_place words (literal b) k e = absurd cc
no_place words i k e = tt

slice_get-append : (xs ys : List TokenName) (k : ℕ) (x : TokenName) → slice_get xs k ≡ Some x → slice_get (xs ++ ys) k ≡ Some x
slice_get-append [] ys k x e = absurd (none-some x e)
slice_get-append (y ∷ xs) ys zero x e = e
slice_get-append (y ∷ xs) ys (suc k) x e = slice_get-append xs ys k x e

place_kept : (words more : List TokenName) (i : Item) (k : ℕ) → IsPlace words i k → IsPlace (words ++ more) i k
place_kept words more (name n) k at = slice_get-append words more k (Word n) at
place_kept words more (literal b) k at = slice_get-append words more k (Byte b) at
place_kept words more i k at = tt

place_more : (words : List TokenName) (w : TokenName) (i : Item) (k : ℕ) → IsPlace words i k → IsPlace (insert_key same_spelling words w) i k
place_more words w i k at = step (list_any (same_spelling w) words)
  where
    step : (b : Bool) → IsPlace (cond b words (words ++ w ∷ [])) i k
    step true = at
    step false = place_kept words (w ∷ []) i k at

-- ---- places of items

places_one : (words : List TokenName) (w : TokenName) (items : List Item) (places : List ℕ) → ArePlaces words items places → ArePlaces (insert_key same_spelling words w) items places
places_one words w [] [] h = tt
places_one words w [] (k ∷ places) h = h
places_one words w (i ∷ items) [] h = h
places_one words w (i ∷ items) (k ∷ places) h = (place_more words w i k h.0, places_one words w items places h.1)

-- where spellings are added, all keep their places
pub places_more : (words ws : List TokenName) (items : List Item) (places : List ℕ) → ArePlaces words items places → ArePlaces (insert_all same_spelling words ws) items places
places_more words [] items places h = h
places_more words (w ∷ ws) items places h = places_more (insert_key same_spelling words w) ws items places (places_one words w items places h)

pub places_drop : (words : List TokenName) (items : List held.Placed) (places : List ℕ) (n : ℕ) → ArePlaces words (items_of (placed_all items)) places → ArePlaces words (items_of (placed_all (drop n items))) (drop n places)
places_drop words items places zero h = h
places_drop words [] [] (suc n) h = tt
places_drop words [] (k ∷ places) (suc n) h = absurd h
places_drop words (p ∷ items) [] (suc n) h = absurd h
places_drop words (p ∷ items) (k ∷ places) (suc n) h = places_drop words items places n h.1

pub places_long : (words : List TokenName) (items : List held.Placed) (places : List ℕ) → ArePlaces words (items_of (placed_all items)) places → length items ≡ length places
places_long words items places h = sym (few_held items) ∙ sym (AllZip-long (IsPlace words) (items_of (placed_all items)) places h)

-- ---- a body by places

abbrev IsWithin : List TokenName → ℕ → Type 0
IsWithin words k = k < length words

pub body_run : (words : List TokenName) (items : List Item) (places : List ℕ) → ArePlaces words items places → names_at words (take (length (body items)) places) ≡ body items
body_run words [] [] h = refl
body_run words [] (k ∷ places) h = absurd h
body_run words (i ∷ items) [] h = absurd h
body_run words (name n ∷ items) (k ∷ places) h = by_colon (begins_with_colon items) (body_run words items places h.1)
  where
    by_colon : (b : Bool) → names_at words (take (length (body items)) places) ≡ body items → names_at words (take (length (cond b [] (Word n ∷ body items))) (k ∷ places)) ≡ cond b [] (Word n ∷ body items)
    by_colon true g = refl
    by_colon false g = rw (get_or_from_slice_get words k (Word n) (Byte 0) h.0, g) refl
body_run words (literal b ∷ items) (k ∷ places) h = rw (get_or_from_slice_get words k (Byte b) (Byte 0) h.0, body_run words items places h.1) refl
body_run words (i ∷ items) (k ∷ places) h = refl

pub body_at : (words : List TokenName) (items : List Item) (places run : List ℕ) → ArePlaces words items places → run ≡ take (length (body items)) places → names_at words run ≡ body items
body_at words items places run h e = ap (names_at words) e ∙ body_run words items places h

pub places_rest : (words : List TokenName) (items after : List held.Placed) (places : List ℕ) (n : ℕ) → ArePlaces words (items_of (placed_all items)) places → after ≡ drop n items → ArePlaces words (items_of (placed_all after)) (take (length places - n) (drop n places))
places_rest words items after places n h e = rw (e, take_rest places n) (places_drop words items places n h)

pub body_within : (words : List TokenName) (items : List Item) (places : List ℕ) → ArePlaces words items places → All (λ k. k < length words) (take (length (body items)) places)
body_within words [] [] h = All-nil (IsWithin words)
body_within words [] (k ∷ places) h = absurd h
body_within words (i ∷ items) [] h = absurd h
body_within words (name n ∷ items) (k ∷ places) h = by_colon (begins_with_colon items) (body_within words items places h.1)
  where
    by_colon : (b : Bool) → All (IsWithin words) (take (length (body items)) places) → All (IsWithin words) (take (length (cond b [] (Word n ∷ body items))) (k ∷ places))
    by_colon true g = All-nil (IsWithin words)
    by_colon false g = All-cons (IsWithin words) k (take (length (body items)) places) (slice_get_within words k (Word n) h.0) g
body_within words (literal b ∷ items) (k ∷ places) h = All-cons (IsWithin words) k (take (length (body items)) places) (slice_get_within words k (Byte b) h.0) (body_within words items places h.1)
body_within words (i ∷ items) (k ∷ places) h = All-nil (IsWithin words)

-- ---- the items with a meaning, one by one

pub places_kept : (words new ws : List TokenName) (items : List Item) (places : List ℕ) → new ≡ insert_all same_spelling words ws → ArePlaces words items places → ArePlaces new items places
places_kept words new ws items places made h = rw made (places_more words ws items places h)

pub places_push : (words : List TokenName) (done now : List held.Placed) (p : held.Placed) (places new : List ℕ) (place : ℕ) → now ≡ done ++ p ∷ [] → ArePlaces words (items_of (placed_all done)) places → IsPlace words (item_of p.item) place
    → new ≡ places ++ place ∷ [] → ArePlaces words (items_of (placed_all now)) new
places_push words done now p places new place taken h at made =
    let pushed : items_of (placed_all (done ++ p ∷ [])) ≡ items_of (placed_all done) ++ item_of p.item ∷ [] = ap items_of (map_push placed_of done p) ∙ map_push (λ (q : Placed). q.item) (placed_all done) (placed_of p) in
    rw (taken, pushed, made) (all_zipped_more (IsPlace words) (items_of (placed_all done)) places (item_of p.item) place h at)

pub drop_next : (xs ys : List held.Placed) (n : ℕ) → drop n xs ≡ drop n ys → drop (n + 1) xs ≡ drop (n + 1) ys
drop_next xs ys n e = sym (drop-drop 1 n xs) ∙ ap (drop 1) e ∙ drop-drop 1 n ys
