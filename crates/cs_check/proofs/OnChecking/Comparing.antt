-- Names that are compared with those of a list, one by one.
use Rattle.std.proofs.Common.{◌≡◌, ℕ, ◌+◌, ◌<◌, ◌≤◌, List, [], ◌∷◌, map, length, get_or, drop, sym, ap, ◌∙◌, ◌↔◌}
use Rattle.std.proofs.lemmas.List.{drop_more, drop_all}

module _ {X : Type 0} (f : X → List ℕ) (xs : List X) (All : Type 0) where
  -- all names are those of the list where the names that are left are those of its rest
  abbrev pub Compared : ℕ → List (List ℕ) → Type 0
  Compared i left = All ↔ (left ≡ map f (drop i xs))

  module _ (i : ℕ) (left : List (List ℕ)) (h : Compared i left) where
    rest : (low : i < length xs) (x : X) → x ≡ get_or xs i x → map f (drop i xs) ≡ f x ∷ map f (drop (i + 1) xs)
    rest low x is =
        ap (λ (l : List X). map f l) (drop_more xs i x low) ∙ ap (λ (y : X). f y ∷ map f (drop (i + 1) xs)) (sym is)

    pub compared_more : (low : i < length xs) (x : X) → x ≡ get_or xs i x → (name : List ℕ) (others : List (List ℕ)) → left ≡ name ∷ others → f x ≡ name → Compared (i + 1) others
    compared_more low x is name others front same =
        let there = rest low x is in (
          λ all. let e = h.0 all in let both : name ∷ others ≡ f x ∷ map f (drop (i + 1) xs) = sym front ∙ e ∙ there in cc,
          λ e. h.1 (front ∙ ap (λ (n : List ℕ). n ∷ others) (sym same) ∙ ap (λ (l : List (List ℕ)). f x ∷ l) e ∙ sym there),
        )

    pub compared_other : (low : i < length xs) (x : X) → x ≡ get_or xs i x → (name : List ℕ) (others : List (List ℕ)) → left ≡ name ∷ others → (f x ≡ name → ⊥) → All → ⊥
    compared_other low x is name others front never all =
        let e = h.0 all in
        let both : name ∷ others ≡ f x ∷ map f (drop (i + 1) xs) = sym front ∙ e ∙ rest low x is in
        never (cc)

    pub compared_short : (low : i < length xs) (x : X) → x ≡ get_or xs i x → left ≡ [] → All → ⊥
    compared_short low x is none all =
        let e = h.0 all in
        let both : [] ≡ f x ∷ map f (drop (i + 1) xs) = sym none ∙ e ∙ rest low x is in
        absurd cc

    pub compared_end : length xs ≤ i → All ↔ (left ≡ [])
    compared_end past =
        let none : map f (drop i xs) ≡ [] = ap (λ (l : List X). map f l) (drop_all i xs past) in
        (λ all. h.0 all ∙ none, λ e. h.1 (e ∙ sym none))
