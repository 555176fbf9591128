-- The counter's rule, and what each kind of step does to a view.
use Rattle.std.specs.Prelude.{◌≡◌, ℕ, ◌+◌, ◌-◌, ◌^◌, ◌<◌, ◌≤◌, ◌↔◌, List, [], ◌∷◌, ◌++◌, length, min, slice_index}
use mathlib.Core.Option.{some}
use lib.ListN.{get_elem?}
use Rattle.atomic_table.specs.Table.{State, Me, Step}
use Rattle.cs_fan.specs.declared.view.View.{View}
use Rattle.cs_fan.specs.Numbers.{times, IsDistinct, IsEachOnceBelow}

-- f of each view, added up
abbrev pub total : (View → ℕ) → List View → ℕ
total f [] = 0
total f (v ∷ vs) = f v + total f vs

-- how often a number stands in the views
abbrev pub times_in : ℕ → List View → ℕ
times_in x views = total (λ v. times x v.drawn) views

-- the numbers of all views differ
abbrev pub Differ : List View → Type 0
Differ views = (x : ℕ) → times_in x views ≤ 1

-- these numbers are those below n
abbrev pub AreThoseBelow : ℕ → List View → Type 0
AreThoseBelow n views = (x : ℕ) → (0 < times_in x views) ↔ (x < n)

abbrev pub count_of_numbers : List View → ℕ
count_of_numbers views = total (λ v. length v.drawn) views

abbrev pub sum_of_over : List View → ℕ
sum_of_over views = total (λ v. v.over) views

abbrev pub sum_of_workers : List View → ℕ
sum_of_workers views = total (λ v. v.workers) views

-- what the rule says of one view, at the counter's numbers of items and workers
pub record Fits (items all : ℕ) (v : View) : Type 0 where
  pub few_over : v.over ≤ v.workers
  pub idle_is_empty : v.workers ≡ 0 → v.drawn ≡ []
  -- a view that isn't spent has the counter's numbers
  pub items_known : 0 < v.workers → v.items ≡ items
  pub all_known : 0 < v.workers → v.all ≡ all

-- The rule of the table with these words and views; the key has the numbers of items and of workers
pub record IsKept (items all : ℕ) (words : List ℕ) (views : List View) : Type 0 where
  pub one_word : length words ≡ 1
  pub small : (items < 2 ^ 32) × (all < 2 ^ 16)
  pub differ : Differ views
  pub those_below : AreThoseBelow (min (slice_index words 0) items) views
  pub word : slice_index words 0 ≡ count_of_numbers views + sum_of_over views
  pub workers : sum_of_workers views ≡ all
  pub each : (id : ℕ) (v : View) → get_elem? views id ≡ some v → Fits items all v

abbrev pub Kept : ℕ × ℕ → State ℕ View → Type 0
Kept key s = IsKept key.0 key.1 s.words s.views

-- the first view
abbrev pub first_view : ℕ × ℕ → View
first_view key = record { drawn = []; over = 0; workers = key.1; items = key.0; all = key.1 }

-- a number more
abbrev pub with_number : View → ℕ → View
with_number v n = record { drawn = v.drawn ++ n ∷ []; over = v.over; workers = v.workers; items = v.items; all = v.all }

-- a draw more that found the end
abbrev pub with_end : View → View
with_end v = record { drawn = v.drawn; over = v.over + 1; workers = v.workers; items = v.items; all = v.all }

abbrev pub kept_part : View → View
kept_part v = record { drawn = v.drawn; over = v.over; workers = v.workers - 1; items = v.items; all = v.all }

abbrev pub given_part : View → View
given_part v = record { drawn = []; over = 0; workers = 1; items = v.items; all = v.all }

abbrev pub together : View → View → View
together v w = record { drawn = v.drawn ++ w.drawn; over = v.over + w.over; workers = v.workers + w.workers; items = v.items; all = v.all }

abbrev pub spent : View
spent = record { drawn = []; over = 0; workers = 0; items = 0; all = 0 }

-- what the rule tells of one view
pub record IsSoundView (v : View) : Type 0 where
  pub distinct : IsDistinct v.drawn
  pub few : length v.drawn ≤ v.items
  pub whole : v.workers ≡ v.all → 0 < v.over → IsEachOnceBelow v.items v.drawn

-- a draw: the number found, where it is below the items, else the end
pub record Drew (of : Step ℕ) (me : Me ℕ View) (n : ℕ) (after : Me ℕ View) : Type 0 where
  pub number : n < me.0.items → after ≡ (with_number me.0 n, me.1)
  pub end : me.0.items ≤ n → after ≡ (with_end me.0, me.1)
  pub sound : IsSoundView after.0

-- a look at the counter
pub record Looked (of : Step ℕ) (me : Me ℕ View) (n : ℕ) (after : Me ℕ View) : Type 0 where
  pub same : after ≡ me
  pub sound : IsSoundView after.0
