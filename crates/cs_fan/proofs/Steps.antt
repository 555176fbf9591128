-- Each kind of step keeps the counter's rule.
use Rattle.std.proofs.Common.{◌≡◌, ◌≢◌, ℕ, zero, suc, ◌+◌, ◌%◌, ◌^◌, ◌<◌, ◌≤◌, min, List, [], ◌∷◌, ◌++◌, length, refl, sym, ap, ◌∙◌, subst, ⊎_elim, arith, length-append}
use Rattle.std.proofs.lemmas.Bool.{cases_lt}
use Rattle.std.specs.Prelude.{slice_index, slice_set}
use mathlib.Core.Option.{some, some-ne-none}
use lib.ListN.{get_elem?}
use Rattle.atomic_table.proofs.Lists.{at_set, at_snoc}
use Rattle.atomic_table.specs.Table.{State, Me, Step, Act, keeps, Valid, carried_after, stepped, Allows, Splits, Joins}
use Rattle.cs_fan.specs.declared.view.View.{View}
use Rattle.cs_fan.specs.Numbers.{times, once_below}
use Rattle.cs_fan.specs.Rule.{total, times_in, count_of_numbers, Fits, Kept, with_number, with_end, kept_part, given_part, together, spent, IsSoundView, Drew, Looked}
use Rattle.cs_fan.proofs.Totals.{times-append, once_more, once_at_most, by_times, differ_by, those_by, count_is, total_set, total_more, total_holds, total_alone, total_le}

-- how often each number stands in the views, and how many there are
numbers_of : (key : ℕ × ℕ) (s : State ℕ View) → Kept key s → (x : ℕ) → times_in x s.views ≡ once_below x (min (slice_index s.words 0) key.0)
numbers_of key s h = by_times (min (slice_index s.words 0) key.0) s.views h.differ h.those_below

count_at : (key : ℕ × ℕ) (s : State ℕ View) → Kept key s → count_of_numbers s.views ≡ min (slice_index s.words 0) key.0
count_at key s h = count_is (min (slice_index s.words 0) key.0) s.views (numbers_of key s h)

-- what the rule tells of a view that has a worker
pub sound_of : (key : ℕ × ℕ) (s : State ℕ View) (id : ℕ) (v : View) → Kept key s → get_elem? s.views id ≡ some v → 0 < v.workers → IsSoundView v
sound_of key s id v h at some_worker =
    let fit = h.each id v at in
    let items = fit.items_known some_worker in
    let all = fit.all_known some_worker in
    record {
      distinct = λ x. let n = numbers_of key s h x in let m = total_holds (λ u. times x u.drawn) s.views id v at in let o = once_at_most x (min (slice_index s.words 0) key.0) in omega arith;
      few = let c = count_at key s h in let m = total_holds (λ u. length u.drawn) s.views id v at in omega arith;
      whole = λ e over x.
          let alone : total (λ u. u.workers) s.views ≡ v.workers = h.workers ∙ sym (e ∙ all) in
          let drawn = total_alone (λ u. times x u.drawn) (λ u. u.workers) s.views id v (λ i u at' z. ap (times x) ((h.each i u at').idle_is_empty z)) at alone in
          let overs = total_holds (λ u. u.over) s.views id v at in
          let c = count_at key s h in
          let w = h.word in
          let n = numbers_of key s h x in
          let full : min (slice_index s.words 0) key.0 ≡ v.items = omega arith in
          sym drawn ∙ n ∙ ap (once_below x) full;
    }

set_word : (ws : List ℕ) (n : ℕ) → length ws ≡ 1 → (length (slice_set ws 0 n) ≡ 1) × (slice_index (slice_set ws 0 n) 0 ≡ n)
set_word [] n e = absurd (omega arith)
set_word (w ∷ ws) n e = (e, refl)

fits_set : (items all : ℕ) (views : List View) (id : ℕ) (w : View) → ((j : ℕ) (u : View) → get_elem? views j ≡ some u → Fits items all u) → Fits items all w → (j : ℕ) (u : View) → get_elem? (slice_set views id w) j ≡ some u → Fits items all u
fits_set items all views id w others mine j u e =
    ⊎_elim (λ (x : (j ≡ id) × (w ≡ u)). subst (Fits items all) x.1 mine) (λ (x : (j ≢ id) × (get_elem? views j ≡ some u)). others j u x.1) (at_set views id j w u e)

there : (views : List View) (id : ℕ) (v w : View) → get_elem? views id ≡ some v → get_elem? (slice_set views id w) id ≡ some w
there [] id v w e = absurd (some-ne-none v (sym e))
there (u ∷ us) zero v w e = refl
there (u ∷ us) (suc id) v w e = there us id v w e

-- the word doesn't wrap
no_wrap : (key : ℕ × ℕ) (s : State ℕ View) → Kept key s → (slice_index s.words 0 + 1) % 2 ^ 64 ≡ slice_index s.words 0 + 1
no_wrap key s h =
    let o = total_le (λ v. v.over) (λ v. v.workers) s.views (λ id v at. (h.each id v at).few_over) in
    let w = h.word in
    let c = count_at key s h in
    let k = h.workers in
    let m = h.small in
    omega arith

-- the state after a draw by a seat, at its new view
drawn_kept : (key : ℕ × ℕ) (s : State ℕ View) (id : ℕ) (c : List (ℕ × ℕ)) (v w : View) → Kept key s → get_elem? s.views id ≡ some v → Fits key.0 key.1 w
    → w.workers ≡ v.workers
    → ((x : ℕ) → times x w.drawn + once_below x (min (slice_index s.words 0) key.0) ≡ times x v.drawn + once_below x (min (slice_index s.words 0 + 1) key.0))
    → length w.drawn + min (slice_index s.words 0) key.0 ≡ length v.drawn + min (slice_index s.words 0 + 1) key.0
    → w.over + min (slice_index s.words 0 + 1) key.0 ≡ v.over + 1 + min (slice_index s.words 0) key.0
    → Kept key (stepped s 0 ((slice_index s.words 0 + 1) % 2 ^ 64) id c w keeps)
drawn_kept key s id c v w h at fit same numbers count over =
    let one = set_word s.words ((slice_index s.words 0 + 1) % 2 ^ 64) h.one_word in
    let now : slice_index (slice_set s.words 0 ((slice_index s.words 0 + 1) % 2 ^ 64)) 0 ≡ slice_index s.words 0 + 1 = one.1 ∙ no_wrap key s h in
    let tc = total_set (λ u. length u.drawn) s.views id v w at in
    let to = total_set (λ u. u.over) s.views id v w at in
    let tw = total_set (λ u. u.workers) s.views id v w at in
    let cn = count_at key s h in
    let k = h.workers in
    let d = h.word in
    let now_numbers : (x : ℕ) → times_in x (slice_set s.views id w) ≡ once_below x (min (slice_index (slice_set s.words 0 ((slice_index s.words 0 + 1) % 2 ^ 64)) 0) key.0) =
    λ x. let t = total_set (λ u. times x u.drawn) s.views id v w at in let n = numbers_of key s h x in let e = numbers x in let m = ap (λ k. once_below x (min k key.0)) now in omega arith in
    record {
      one_word = one.0;
      small = h.small;
      differ = differ_by _ _ now_numbers;
      those_below = those_by _ _ now_numbers;
      word = omega arith;
      workers = omega arith;
      each = fits_set key.0 key.1 s.views id w h.each fit;
    }

-- a draw keeps the rule
module _ (key : ℕ × ℕ) (slots id : ℕ) (me : Me ℕ View) (of : Step ℕ) (none_over : me.0.over ≡ 0) (some_worker : 0 < me.0.workers) (s : State ℕ View) (h : Kept key s) (at : get_elem? s.views id ≡ some me.0) where
  fit_number : Fits key.0 key.1 (with_number me.0 (slice_index s.words 0))
  fit_number =
      let fit = h.each id me.0 at in
      record { few_over = fit.few_over; idle_is_empty = λ z. absurd (omega arith); items_known = fit.items_known; all_known = fit.all_known }

  fit_end : Fits key.0 key.1 (with_end me.0)
  fit_end =
      let fit = h.each id me.0 at in
      record { few_over = omega arith; idle_is_empty = λ z. absurd (omega arith); items_known = fit.items_known; all_known = fit.all_known }

  takes_number : slice_index s.words 0 < me.0.items → Kept key (stepped s 0 ((slice_index s.words 0 + 1) % 2 ^ 64) id me.1 (with_number me.0 (slice_index s.words 0)) keeps)
  takes_number lt =
      let items = (h.each id me.0 at).items_known some_worker in
      let n = slice_index s.words 0 in
      let low : min n key.0 ≡ n = omega arith in
      let high : min (n + 1) key.0 ≡ suc n = omega arith in
      drawn_kept key s id me.1 me.0 (with_number me.0 n) h at fit_number refl
      (λ x.
      let a = times-append x me.0.drawn (n ∷ []) in
      let b = ap (once_below x) low in
      let c = ap (once_below x) high in
      let d = once_more x n in
      omega arith)
      (let a = length-append me.0.drawn (n ∷ []) in omega arith)
      (omega arith)

  finds_end : me.0.items ≤ slice_index s.words 0 → Kept key (stepped s 0 ((slice_index s.words 0 + 1) % 2 ^ 64) id me.1 (with_end me.0) keeps)
  finds_end le =
      let items = (h.each id me.0 at).items_known some_worker in
      let n = slice_index s.words 0 in
      let low : min n key.0 ≡ key.0 = omega arith in
      let high : min (n + 1) key.0 ≡ key.0 = omega arith in
      drawn_kept key s id me.1 me.0 (with_end me.0) h at fit_end refl
      (λ x. let b = ap (once_below x) low in let c = ap (once_below x) high in omega arith)
      (omega arith)
      (omega arith)

  sound_after : (w : View) → 0 < w.workers → Kept key (stepped s 0 ((slice_index s.words 0 + 1) % 2 ^ 64) id me.1 w keeps) → IsSoundView w
  sound_after w has kept = sound_of key (stepped s 0 ((slice_index s.words 0 + 1) % 2 ^ 64) id me.1 w keeps) id w kept (there s.views id me.0 w at) has

  abbrev Drawing : Type 0
  Drawing = (w : View) × (a : Act ℕ) × Valid s.homes me.1 a × Kept key (stepped s 0 ((slice_index s.words 0 + 1) % 2 ^ 64) id me.1 w a) × Drew of me (slice_index s.words 0) (w, carried_after me.1 a)

  draws_at : Drawing
  draws_at = ⊎_elim
      (λ lt. let k = takes_number lt in (with_number me.0 (slice_index s.words 0), keeps, tt, k, record { number = λ _. refl; end = λ le. absurd (omega arith); sound = sound_after (with_number me.0 (slice_index s.words 0)) some_worker k }))
      (λ le. let k = finds_end le in (with_end me.0, keeps, tt, k, record { number = λ lt. absurd (omega arith); end = λ _. refl; sound = sound_after (with_end me.0) some_worker k }))
      (cases_lt (slice_index s.words 0) me.0.items)

pub draws : (key : ℕ × ℕ) (slots id : ℕ) (me : Me ℕ View) (of : Step ℕ) → me.0.over ≡ 0 → 0 < me.0.workers → Allows (Kept key) slots id me 0 (λ n. (n + 1) % 2 ^ 64) (Drew of me)
draws key slots id me of none_over some_worker s h _ at _ = draws_at key slots id me of none_over some_worker s h at

-- words and views, where the word is as it was and the totals are
kept_as : (key : ℕ × ℕ) (s : State ℕ View) (words : List ℕ) (homes : _) (views : List View) → Kept key s
    → length words ≡ 1 → slice_index words 0 ≡ slice_index s.words 0
    → ((x : ℕ) → total (λ v. times x v.drawn) views ≡ total (λ v. times x v.drawn) s.views)
    → total (λ v. length v.drawn) views ≡ total (λ v. length v.drawn) s.views
    → total (λ v. v.over) views ≡ total (λ v. v.over) s.views
    → total (λ v. v.workers) views ≡ total (λ v. v.workers) s.views
    → ((id : ℕ) (v : View) → get_elem? views id ≡ some v → Fits key.0 key.1 v)
    → Kept key record { words = words; homes = homes; views = views }
kept_as key s words homes views h one same numbers count over workers each =
    let m = ap (λ k. min k key.0) same in
    let c = count_at key s h in
    let k = h.workers in
    let d = h.word in
    let now_numbers : (x : ℕ) → times_in x views ≡ once_below x (min (slice_index words 0) key.0) =
    λ x. numbers x ∙ numbers_of key s h x ∙ sym (ap (λ k. once_below x (min k key.0)) same) in
    record {
      one_word = one;
      small = h.small;
      differ = differ_by _ _ now_numbers;
      those_below = those_by _ _ now_numbers;
      word = omega arith;
      workers = omega arith;
      each = each;
    }

-- a look keeps the rule
pub looks : (key : ℕ × ℕ) (slots id : ℕ) (me : Me ℕ View) (of : Step ℕ) → 0 < me.0.workers → Allows (Kept key) slots id me 0 (λ n. n) (Looked of me)
looks key slots id me of some_worker s h _ at _ = (me.0, keeps, tt, kept, record { same = refl; sound = sound_of key s id me.0 h at some_worker })
  where
    kept : Kept key (stepped s 0 (slice_index s.words 0) id me.1 me.0 keeps)
    kept =
        let one = set_word s.words (slice_index s.words 0) h.one_word in
        kept_as key s (slice_set s.words 0 (slice_index s.words 0)) s.homes (slice_set s.views id me.0) h one.0 one.1
        (λ x. let t = total_set (λ u. times x u.drawn) s.views id me.0 me.0 at in omega arith)
        (let t = total_set (λ u. length u.drawn) s.views id me.0 me.0 at in omega arith)
        (let t = total_set (λ u. u.over) s.views id me.0 me.0 at in omega arith)
        (let t = total_set (λ u. u.workers) s.views id me.0 me.0 at in omega arith)
        (fits_set key.0 key.1 s.views id me.0 h.each (h.each id me.0 at))

-- a split keeps the rule
pub splits : (key : ℕ × ℕ) (id : ℕ) (v : View) → v.over ≡ 0 → 1 < v.workers → Splits (Kept key) id v (kept_part v) (given_part v)
splits key id v none_over two s h at =
    let fit = h.each id v at in
    let views = slice_set s.views id (kept_part v) in
    kept_as key s s.words s.homes (views ++ given_part v ∷ []) h h.one_word refl
    (λ x. let t = total_set (λ u. times x u.drawn) s.views id v (kept_part v) at in let m = total_more (λ u. times x u.drawn) views (given_part v) in omega arith)
    (let t = total_set (λ u. length u.drawn) s.views id v (kept_part v) at in let m = total_more (λ u. length u.drawn) views (given_part v) in omega arith)
    (let t = total_set (λ u. u.over) s.views id v (kept_part v) at in let m = total_more (λ u. u.over) views (given_part v) in omega arith)
    (let t = total_set (λ u. u.workers) s.views id v (kept_part v) at in let m = total_more (λ u. u.workers) views (given_part v) in omega arith)
    (λ j u e. ⊎_elim
    (λ was. fits_set key.0 key.1 s.views id (kept_part v) h.each
    record { few_over = omega arith; idle_is_empty = λ z. absurd (omega arith); items_known = λ _. fit.items_known (omega arith); all_known = λ _. fit.all_known (omega arith) } j u was)
    (λ (same : given_part v ≡ u). subst (Fits key.0 key.1) same
    record { few_over = omega arith; idle_is_empty = λ _. refl; items_known = λ _. fit.items_known (omega arith); all_known = λ _. fit.all_known (omega arith) })
    (at_snoc views (given_part v) u j e))

-- a join keeps the rule
pub joins : (key : ℕ × ℕ) (id : ℕ) (v : View) (other : ℕ) (w : View) → 0 < v.workers → 0 < w.workers → Joins (Kept key) id v other w (together v w) spent
joins key id v other w mine theirs s h at apart at' =
    let fit = h.each id v at in
    let views = slice_set s.views id (together v w) in
    let found = ⊎_elim (λ (t : (other ≡ id) × (together v w ≡ w)). absurd (apart t.0)) (λ (t : (other ≢ id) × (get_elem? s.views other ≡ some w)). t.1) (at_set s.views id other (together v w) w at') in
    let fit' = h.each other w found in
    let few = fit.few_over in
    let few' = fit'.few_over in
    kept_as key s s.words s.homes (slice_set views other spent) h h.one_word refl
    (λ x.
    let t = total_set (λ u. times x u.drawn) s.views id v (together v w) at in
    let m = total_set (λ u. times x u.drawn) views other w spent at' in
    let a = times-append x v.drawn w.drawn in
    omega arith)
    (let t = total_set (λ u. length u.drawn) s.views id v (together v w) at in let m = total_set (λ u. length u.drawn) views other w spent at' in let a = length-append v.drawn w.drawn in omega arith)
    (let t = total_set (λ u. u.over) s.views id v (together v w) at in let m = total_set (λ u. u.over) views other w spent at' in omega arith)
    (let t = total_set (λ u. u.workers) s.views id v (together v w) at in let m = total_set (λ u. u.workers) views other w spent at' in omega arith)
    (fits_set key.0 key.1 views other spent
    (fits_set key.0 key.1 s.views id (together v w) h.each
    record { few_over = omega arith; idle_is_empty = λ z. absurd (omega arith); items_known = λ _. fit.items_known mine; all_known = λ _. fit.all_known mine })
    record { few_over = omega arith; idle_is_empty = λ _. refl; items_known = λ p. absurd (omega arith); all_known = λ p. absurd (omega arith) })
