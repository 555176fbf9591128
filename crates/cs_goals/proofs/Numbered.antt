-- Lists with their numbers, from a place on.
use Rattle.std.proofs.Common.{◌≡◌, ℕ, ◌+◌, ◌<◌, ◌≤◌, List, [], ◌∷◌, map, length, drop, get_or, ap, ◌∙◌, arith}
use Rattle.std.specs.List.{enumerate_from, range_with_len}
use Rattle.std.proofs.lemmas.List.{drop_more, drop_all}
use Rattle.std.proofs.lemmas.List.FromFn.{get_or-enumerate_from, length-enumerate_from, get_or-map-range_with_len, length-map-range_with_len}

module _ {X : Type 0} where
  pub drop-enumerate_from : (xs : List X) (a i j : ℕ) (d : X) → i < length xs → a + i ≡ j → drop i (enumerate_from a xs) ≡ (j, get_or xs i d) ∷ drop (i + 1) (enumerate_from a xs)
  drop-enumerate_from xs a i j d within same =
      let long : length (enumerate_from a xs) ≡ length xs = length-enumerate_from a xs in
      drop_more (enumerate_from a xs) i (0, d) (omega arith)
      ∙ ap (λ (e : ℕ × X). e ∷ drop (i + 1) (enumerate_from a xs)) (get_or-enumerate_from a xs i (0, d) within)
      ∙ ap (λ (n : ℕ). (n, get_or xs i d) ∷ drop (i + 1) (enumerate_from a xs)) same

  pub drop-enumerate_from_past : (xs : List X) (a i : ℕ) → length xs ≤ i → drop i (enumerate_from a xs) ≡ []
  drop-enumerate_from_past xs a i past =
      let long : length (enumerate_from a xs) ≡ length xs = length-enumerate_from a xs in
      drop_all i (enumerate_from a xs) (omega arith)

  pub drop-map-range : (f : ℕ → X) (a n i j : ℕ) → i < n → a + i ≡ j → drop i (map f (range_with_len a n)) ≡ f j ∷ drop (i + 1) (map f (range_with_len a n))
  drop-map-range f a n i j within same =
      let long : length (map f (range_with_len a n)) ≡ n = length-map-range_with_len f a n in
      drop_more (map f (range_with_len a n)) i (f 0) (omega arith)
      ∙ ap (λ (x : X). x ∷ drop (i + 1) (map f (range_with_len a n))) (get_or-map-range_with_len f a n i j (f 0) within same)

  pub drop-map-range_past : (f : ℕ → X) (a n i : ℕ) → n ≤ i → drop i (map f (range_with_len a n)) ≡ []
  drop-map-range_past f a n i past =
      let long : length (map f (range_with_len a n)) ≡ n = length-map-range_with_len f a n in
      drop_all i (map f (range_with_len a n)) (omega arith)
