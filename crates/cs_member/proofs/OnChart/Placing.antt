-- Rows in lists that are found by places.
use Rattle.std.proofs.Common.{◌≡◌, ℕ, zero, suc, ◌+◌, ◌<◌, inl, inr, List, [], ◌∷◌, ◌++◌, Some, length, map, get_or, replicate, refl, sym, ap, ◌∙◌, subst, arith, get_or-set_other}
use Rattle.std.specs.Prelude.{slice_get}
use Rattle.std.specs.Global.{Vec}
use Rattle.std.proofs.Math.ListN.{set, length-set}
use Rattle.std.proofs.lemmas.List.{length-map, length-append, length-replicate, get_or-replicate}
use Rattle.std.proofs.lemmas.Option.{slice_get_within, slice_get-map, get_or_from_slice_get, same_Some}
use Rattle.cs_member.specs.declared.chart.chart.Row.{Row}
use Rattle.cs_member.specs.Tables.Adding.{IsAdded}
use Rattle.cs_member.specs.Tables.Asked.{AreEmptyLists}
use Rattle.cs_member.specs.Chart.Buckets.{ArePlaces, lists_by}
use Rattle.cs_member.proofs.OnTables.Places.{at_left, at_end, at_push_cases, at_set, at_set_cases, there_at}

-- the list at a place
abbrev at_place : Vec Row → List (Vec Row) → ℕ → Vec Row
at_place none lists k = get_or lists k none

pub at_by : (places : List ℕ) (lists : List (Vec Row)) (n k : ℕ) (list : Vec Row) → slice_get places n ≡ Some k → slice_get lists k ≡ Some list → slice_get (lists_by places lists) n ≡ Some list
at_by places [] n k list at there = absurd cc
at_by places (none ∷ more) n k list at there =
    let f : ℕ → Vec Row = at_place none (none ∷ more) in
    let read : f k ≡ list = get_or_from_slice_get (none ∷ more) k list none there in
    slice_get-map f places n ∙ (rw at (ap Some read))

pub length_by : (places : List ℕ) (lists : List (Vec Row)) → 0 < length lists → length (lists_by places lists) ≡ length places
length_by places [] some = absurd (omega arith)
length_by places (none ∷ more) some = length-map places (at_place none (none ∷ more))

map_same : (f h : ℕ → Vec Row) (xs : List ℕ) → ((c j : ℕ) → slice_get xs c ≡ Some j → h j ≡ f j) → map h xs ≡ map f xs
map_same f h [] same = refl
map_same f h (x ∷ xs) same = ap (λ (y : Vec Row). y ∷ map h xs) (same 0 x refl) ∙ ap (λ (l : List (Vec Row)). f x ∷ l) (map_same f h xs (λ c j e. same (suc c) j e))

-- the list of one number is another
map_old : (f h : ℕ → Vec Row) (xs : List ℕ) (b k : ℕ) (v : Vec Row) → slice_get xs b ≡ Some k → h k ≡ v → ((c j : ℕ) → slice_get xs c ≡ Some j → (c ≡ b → ⊥) → h j ≡ f j) → map h xs ≡ set (map f xs) b v
map_old f h [] b k v at is others = absurd cc
map_old f h (x ∷ xs) zero k v at is others =
    let one : h x ≡ v = ap h (same_Some x k at) ∙ is in
    ap (λ (y : Vec Row). y ∷ map h xs) one ∙ ap (λ (l : List (Vec Row)). v ∷ l) (map_same f h xs (λ c j e. others (suc c) j e (λ z. absurd (omega arith))))
map_old f h (x ∷ xs) (suc b) k v at is others =
    ap (λ (y : Vec Row). y ∷ map h xs) (others 0 x refl (λ z. absurd (omega arith)))
    ∙ ap (λ (l : List (Vec Row)). f x ∷ l) (map_old f h xs b k v at is (λ c j e differs. others (suc c) j e (λ z. differs (omega arith))))

-- the list of one number has another place
map_new : (f h : ℕ → Vec Row) (xs : List ℕ) (b j : ℕ) (v : Vec Row) → b < length xs → h j ≡ v → ((c k : ℕ) → slice_get xs c ≡ Some k → h k ≡ f k) → map h (set xs b j) ≡ set (map f xs) b v
map_new f h [] b j v lt is others = absurd (omega arith)
map_new f h (x ∷ xs) zero j v lt is others = ap (λ (y : Vec Row). y ∷ map h xs) is ∙ ap (λ (l : List (Vec Row)). v ∷ l) (map_same f h xs (λ c k e. others (suc c) k e))
map_new f h (x ∷ xs) (suc b) j v lt is others =
    ap (λ (y : Vec Row). y ∷ map h (set xs b j)) (others 0 x refl)
    ∙ ap (λ (l : List (Vec Row)). f x ∷ l) (map_new f h xs b j v (omega arith) is (λ c k e. others (suc c) k e))

-- a row is put last in a list
pub added_old : (places : List ℕ) (lists new : List (Vec Row)) (b at : ℕ) (row : Row) → ArePlaces places lists → slice_get places b ≡ Some at → 0 < at → IsAdded at row lists new → IsAdded b row (lists_by places lists) (lists_by places new)
added_old places [] new b at row are there above added = absurd (let some = are.some in omega arith)
added_old places (none ∷ more) new b zero row are there above added = absurd (omega arith)
added_old places (none ∷ more) new b (suc m) row are there above added =
    let lists : List (Vec Row) = none ∷ more in
    let within = slice_get_within lists (suc m) added.list added.was in
    let changed : List (Vec Row) = none ∷ set more m added.longer in
    record {
      list = added.list;
      longer = added.longer;
      was = at_by places lists b (suc m) added.list there added.was;
      is = added.is;
      lists = ap (λ (l : List (Vec Row)). lists_by places l) added.lists
          ∙ map_old (at_place none lists) (at_place none changed) places b (suc m) added.longer there
          (get_or_from_slice_get changed (suc m) added.longer none (at_set lists (suc m) added.longer within))
          (λ c j e differs. get_or-set_other lists (suc m) j added.longer none (λ same. differs (are.once c b (suc m) (e ∙ ap Some same) there above)));
    }

pub places_old : (places : List ℕ) (lists new : List (Vec Row)) (at : ℕ) (row : Row) → ArePlaces places lists → 0 < at → IsAdded at row lists new → ArePlaces places new
places_old places lists new at row are above added =
    let long : length new ≡ length lists = ap (λ (l : List (Vec Row)). length l) added.lists ∙ length-set lists at added.longer in
    record {
      some = (let some = are.some in omega arith);
      within = λ n k e. (let lt = are.within n k e in omega arith);
      none = λ list e. elim (at_set_cases lists at 0 added.longer list (ap (λ (l : List (Vec Row)). slice_get l 0) (sym added.lists) ∙ e)) [
        | inl here ↦ absurd (let same = here.0 in omega arith)
        | inr old ↦ are.none list old
      ];
      once = are.once;
    }

-- a row is the first of its number
pub added_new : (places : List ℕ) (lists : List (Vec Row)) (b : ℕ) (row : Row) (longer : Vec Row) → ArePlaces places lists → slice_get places b ≡ Some 0 → longer.items ≡ row ∷ [] → IsAdded b row (lists_by places lists) (lists_by (set places b (length lists)) (lists ++ longer ∷ []))
added_new places [] b row longer are there is = absurd (let some = are.some in omega arith)
added_new places (none ∷ more) b row longer are there is =
    let lists : List (Vec Row) = none ∷ more in
    let changed : List (Vec Row) = none ∷ (more ++ longer ∷ []) in
    let empty : none.items ≡ [] = are.none none refl in
    record {
      list = none;
      longer = longer;
      was = at_by places lists b 0 none there refl;
      is = is ∙ ap (λ (l : List Row). l ++ row ∷ []) (sym empty);
      lists = map_new (at_place none lists) (at_place none changed) places b (length lists) longer (slice_get_within places b 0 there)
          (get_or_from_slice_get changed (length lists) longer none (at_end lists longer (length lists) refl))
          (λ c k e.
          let lt = are.within c k e in
          let old = there_at lists k lt in
          get_or_from_slice_get changed k old.0 none (at_left lists (longer ∷ []) k old.0 old.1) ∙ sym (get_or_from_slice_get lists k old.0 none old.1));
    }

pub places_new : (places : List ℕ) (lists : List (Vec Row)) (b : ℕ) (longer : Vec Row) → ArePlaces places lists → ArePlaces (set places b (length lists)) (lists ++ longer ∷ [])
places_new places lists b longer are =
    let long : length (lists ++ longer ∷ []) ≡ length lists + 1 = length-append lists (longer ∷ []) in
    record {
      some = omega arith;
      within = λ n k e. elim (at_set_cases places b n (length lists) k e) [
        | inl here ↦ (let same = here.1 in omega arith)
        | inr old ↦ (let lt = are.within n k old in omega arith)
      ];
      none = λ list e. elim (at_push_cases lists longer 0 list e) [
        | inl old ↦ are.none list old
        | inr last ↦ absurd (let same = last.0 in let some = are.some in omega arith)
      ];
      once = λ m n k first second above. elim (at_set_cases places b m (length lists) k first) [
        | inl here ↦ elim (at_set_cases places b n (length lists) k second) [
          | inl there ↦ here.0 ∙ sym there.0
          | inr old ↦ absurd (let lt = are.within n k old in let same = here.1 in omega arith)
        ]
        | inr old ↦ elim (at_set_cases places b n (length lists) k second) [
          | inl there ↦ absurd (let lt = are.within m k old in let same = there.1 in omega arith)
          | inr other ↦ are.once m n k old other above
        ]
      ];
    }

-- no number has a row

all_zero : (many n k : ℕ) → slice_get (replicate many 0) n ≡ Some k → k ≡ 0
all_zero many n k e =
    let xs : List ℕ = replicate many 0 in
    let lt : n < length xs = slice_get_within xs n k e in
    let within : n < many = subst (λ m. n < m) (length-replicate many 0) lt in
    sym (get_or_from_slice_get xs n k 0 e) ∙ get_or-replicate many n 0 0 within

pub places_none : (many : ℕ) (none : Vec Row) → none.items ≡ [] → ArePlaces (replicate many 0) (none ∷ [])
places_none many none empty = record {
  some = omega arith;
  within = λ n k e. (let same = all_zero many n k e in omega arith);
  none = λ list e. ap (λ (v : Vec Row). v.items) (sym (same_Some none list e)) ∙ empty;
  once = λ m n k first second above. absurd (let same = all_zero many m k first in omega arith);
}

pub empty_by : (many : ℕ) (none : Vec Row) → none.items ≡ [] → AreEmptyLists (lists_by (replicate many 0) (none ∷ []))
empty_by many none empty = λ n list e.
    let places : List ℕ = replicate many 0 in
    let lt = slice_get_within (lists_by places (none ∷ [])) n list e in
    let long : length (lists_by places (none ∷ [])) ≡ length places = length_by places (none ∷ []) (omega arith) in
    let place = there_at places n (omega arith) in
    let zeros : place.0 ≡ 0 = all_zero many n place.0 place.1 in
    let one : none ≡ list = same_Some none list (sym (at_by places (none ∷ []) n 0 none (place.1 ∙ ap Some zeros) refl) ∙ e) in
    ap (λ (v : Vec Row). v.items) (sym one) ∙ empty
