-- What is seen of the code's tables.
use Rattle.std.proofs.Common.{◌≡◌, ℕ, ◌-◌, ◌<◌, ◌≤◌, arith, List, [], length, ap, ◌∙◌, Option, None, zero, suc, ◌∷◌, refl}
use Rattle.std.specs.Prelude.{slice_index_or}
use Rattle.std.proofs.lemmas.List.{get_or-map, length-map}
use Rattle.cs_lexical.specs.Least.{least_of, named, rules_of, both_in}
use Rattle.cs_lexical.specs.Noting.{AreRows, number_in}
use Rattle.cs_lexical.proofs.Rows.{long_behind}

module _ (wins : List ℕ) (rows : List (List ℕ)) (texts : List (Option (List ℕ))) where
  pub rules_seen : rules_of (least_of wins rows texts) ≡ length wins
  rules_seen = length-map wins (λ n. slice_index_or texts n None)

  pub row_seen : (place : ℕ) → place < length rows → slice_index_or (least_of wins rows texts).rows place [] ≡ named texts (slice_index_or rows place [])
  row_seen place less = get_or-map (named texts) rows place [] [] less

  pub row_long : (place : ℕ) → place < length rows → length (slice_index_or (least_of wins rows texts).rows place []) ≡ length (slice_index_or rows place [])
  row_long place less =
      ap (λ (l : List (Option (List ℕ))). length l) (row_seen place less) ∙ length-map (slice_index_or rows place []) (λ n. slice_index_or texts n None)

  pub both_seen : (rule other : ℕ) → AreRows (length wins) rows → 0 < rule → rule < other → other ≤ length wins
      → both_in (least_of wins rows texts) rule other ≡ slice_index_or texts (number_in rows rule other) None
  both_seen rule other are from_1 ascend within =
      let inside : rule - 1 < length rows = omega (arith, from_1, ascend, within, are.all) in
      let long = long_behind (length wins) rows rule are from_1 (omega (arith, ascend, within)) in
      ap (λ (l : List (Option (List ℕ))). slice_index_or l (other - rule - 1) None) (row_seen (rule - 1) inside)
      ∙ get_or-map (λ n. slice_index_or texts n None) (slice_index_or rows (rule - 1) []) (other - rule - 1) 0 None (omega (arith, long, from_1, ascend, within))

-- an entry read with itself in place of the default
pub own_default : {A : Type 0} (xs : List A) (i : ℕ) (d : A) → i < length xs → slice_index_or xs i d ≡ slice_index_or xs i (slice_index_or xs i d)
own_default {A} [] i d less = absurd (omega (arith, less))
own_default {A} (x ∷ xs) zero d less = refl
own_default {A} (x ∷ xs) (suc i) d less = own_default xs i d (omega (arith, less))
