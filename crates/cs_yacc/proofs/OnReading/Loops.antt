-- Loops over the items, from the front.
use Rattle.std.proofs.Common.{true, false, ◌≡◌, ℕ, ◌+◌, ◌<◌, ◌≤◌, Bool, List, [], ◌∷◌, ◌++◌, length, drop, get_or, refl, sym, ap, subst, ◌∙◌}
use Rattle.std.specs.Prelude.{Option, Some, None, filter}
use Rattle.std.proofs.lemmas.List.{at_drop_more, at_drop_all}
use Rattle.indexmap.specs.IndexSet.{insert_all}
use Rattle.cs_yacc.specs.declared.items.item.Placed as held
use Rattle.cs_yacc.specs.declared.items.item.Item.TheVariants as variants
use Rattle.cs_yacc.specs.declared.reading.spelling.Spelling as code
use Rattle.cs_yacc.specs.Reading.SpellingView.{spelling_of, spellings_of}
use Rattle.std.proofs.lemmas.List.Elements.{filter-append}
use Rattle.cs_yacc.specs.Items.Items.{Item, items_of}
use Rattle.cs_yacc.specs.Items.Views.{item_of, placed_all}
use Rattle.cs_yacc.specs.declared.reading.name.TokenName.{TokenName}
use Rattle.cs_yacc.specs.Reading.Meaning.{same_spelling, distinct, from_each, first_at}
use Rattle.cs_yacc.proofs.OnReading.Gathering.{Gathers, Gathers-more, Gathers-ends}

-- what is left from an index on
abbrev pub rest_at : List held.Placed → ℕ → List Item
rest_at items k = items_of (placed_all (drop k items))

pub rest_more : (items : List held.Placed) (k : ℕ) (p : held.Placed) → k < length items → rest_at items k ≡ item_of (get_or items k p).item ∷ rest_at items (k + 1)
rest_more items k p lt = at_drop_more (λ xs. items_of (placed_all xs)) items k p lt

pub rest_all : (items : List held.Placed) (k : ℕ) → length items ≤ k → rest_at items k ≡ []
rest_all items k le = at_drop_all (λ xs. items_of (placed_all xs)) items k le

module _ (f : Item → List Item → List TokenName) (items : List held.Placed) where
  pub gather_step : (k : ℕ) (p : held.Placed) (old new ws all : List TokenName) (after : List held.Placed) → Gathers old (from_each f (rest_at items k)) all → k < length items
      → after ≡ drop (k + 1) items → ws ≡ f (item_of (get_or items k p).item) (items_of (placed_all after)) → new ≡ insert_all same_spelling old ws → Gathers new (from_each f (rest_at items (k + 1))) all
  gather_step k p old new ws all after g lt e is made =
      let step : from_each f (rest_at items k) ≡ f (item_of (get_or items k p).item) (rest_at items (k + 1)) ++ from_each f (rest_at items (k + 1)) = ap (from_each f) (rest_more items k p lt) in
      let given : ws ≡ f (item_of (get_or items k p).item) (rest_at items (k + 1)) = is ∙ ap (λ (x : List held.Placed). f (item_of (get_or items k p).item) (items_of (placed_all x))) e in
      rw made (Gathers-more old (from_each f (rest_at items k)) (from_each f (rest_at items (k + 1))) all ws g (rw given step))

  pub gather_ends : (k : ℕ) (table all : List TokenName) → Gathers table (from_each f (rest_at items k)) all → length items ≤ k → table ≡ distinct all
  gather_ends k table all g le = Gathers-ends table all (subst (λ (x : List Item). Gathers table (from_each f x) all) (rest_all items k le) g)

-- ---- the first item that passes

module _ (t : Item → List Item → Bool) (items : List held.Placed) (total : Option ℕ) where
  pub first_more : (k : ℕ) (p : held.Placed) (b : Bool) → first_at t (placed_all (drop k items)) ≡ total → k < length items
      → b ≡ t (item_of (get_or items k p).item) (rest_at items (k + 1)) → b ≡ false → first_at t (placed_all (drop (k + 1) items)) ≡ total
  first_more k p b so_far lt is no_pass =
      let here : first_at t (placed_all (drop k items)) ≡ first_at t (placed_all (drop (k + 1) items)) = at_drop_more (λ xs. first_at t (placed_all xs)) items k p lt ∙ rw (sym is ∙ no_pass) refl in
      sym here ∙ so_far

  pub first_found : (k : ℕ) (p : held.Placed) (b : Bool) → first_at t (placed_all (drop k items)) ≡ total → k < length items
      → b ≡ t (item_of (get_or items k p).item) (rest_at items (k + 1)) → b ≡ true → Some (get_or items k p).at ≡ total
  first_found k p b so_far lt is passes =
      let here : first_at t (placed_all (drop k items)) ≡ Some (get_or items k p).at = at_drop_more (λ xs. first_at t (placed_all xs)) items k p lt ∙ rw (sym is ∙ passes) refl in
      sym here ∙ so_far

  pub first_none : (k : ℕ) → first_at t (placed_all (drop k items)) ≡ total → length items ≤ k → None ≡ total
  first_none k so_far le = sym (at_drop_all (λ xs. first_at t (placed_all xs)) items k le) ∙ so_far

-- the element that a loop's item has where there is none
abbrev pub no_item : held.Placed
no_item = record { at = 0; item = variants.Mark }

-- the same as code tests it, with the items behind
module _ (t : Item → List Item → Bool) (items : List held.Placed) (total : Option ℕ) (k : ℕ) (b : Bool) (after : List held.Placed) (so_far : first_at t (placed_all (drop k items)) ≡ total) (lt : k < length items)
    (behind : after ≡ drop (k + 1) items) (is : b ≡ t (item_of (get_or items k no_item).item) (items_of (placed_all after))) where
  here : b ≡ t (item_of (get_or items k no_item).item) (rest_at items (k + 1))
  here = is ∙ ap (λ (x : List held.Placed). t (item_of (get_or items k no_item).item) (items_of (placed_all x))) behind

  pub passes_not : b ≡ false → first_at t (placed_all (drop (k + 1) items)) ≡ total
  passes_not e = first_more t items total k no_item b so_far lt here e

  pub passes : b ≡ true → Some (get_or items k no_item).at ≡ total
  passes e = first_found t items total k no_item b so_far lt here e

-- ---- tokens

pub tokens_more : (p : TokenName → Bool) (words : List code.Spelling) (k : ℕ) (w : code.Spelling) (old new ws all : List TokenName) → Gathers old (filter p (spellings_of (drop k words))) all → k < length words
    → ws ≡ filter p (spelling_of (get_or words k w) ∷ []) → new ≡ insert_all same_spelling old ws → Gathers new (filter p (spellings_of (drop (k + 1) words))) all
tokens_more p words k w old new ws all g lt is made =
    let rest : List TokenName = spellings_of (drop (k + 1) words) in
    let here : filter p (spellings_of (drop k words)) ≡ filter p (spelling_of (get_or words k w) ∷ rest) = at_drop_more (λ xs. filter p (spellings_of xs)) words k w lt in
    let parted : filter p (spelling_of (get_or words k w) ∷ rest) ≡ ws ++ filter p rest = filter-append p (spelling_of (get_or words k w) ∷ []) rest ∙ ap (λ (x : List TokenName). x ++ filter p rest) (sym is) in
    rw made (Gathers-more old _ (filter p rest) all ws g (here ∙ parted))
