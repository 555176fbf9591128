-- What one more closed line claims.
use Rattle.std.proofs.Common.{◌≡◌, ◌≢◌, ℕ, ◌<◌, ◌≤◌, List, [], ◌∷◌, ◌++◌, length, get_or, sym, ◌∙◌, subst, ⊎_elim, inl, inr, ◌⊎◌, ◌↔◌, arith}
use Rattle.std.proofs.lemmas.Bool.{cases_lt}
use Rattle.std.proofs.lemmas.List.{get_or_push, get_or_append_left, get_or_past, length_push}
use Rattle.cs_check.proofs.OnChecking.Named.{Among}

-- nothing is among no names
pub none_among : {X : Type 0} (Means : List ℕ → X → Type 0) (x : X) → Among Means [] x → ⊥
none_among Means x h = let low = h.1.1 in omega arith

-- a row that is new has what it names, and all others have what they had
module _ {X : Type 0} (Means : List ℕ → X → Type 0) (x : X) (was is : List (List ℕ)) (Old New : Type 0) (old : Old ↔ Among Means was x) where
  pub kept_row : New ↔ Old → is ≡ was → New ↔ Among Means is x
  kept_row new e = (
    λ h. subst (λ (l : List (List ℕ)). Among Means l x) (sym e) (old.0 (new.0 h)),
    λ h. new.1 (old.1 (subst (λ (l : List (List ℕ)). Among Means l x) e h)),
  )

  module _ (names : List (List ℕ)) (Here : Type 0) (new : New ↔ (Old ⊎ (Here × Among Means names x))) where
    pub new_row : Here → is ≡ names → was ≡ [] → New ↔ Among Means is x
    new_row here e none = (
      λ h. subst (λ (l : List (List ℕ)). Among Means l x) (sym e)
          (⊎_elim (λ a. absurd (none_among Means x (subst (λ (l : List (List ℕ)). Among Means l x) none (old.0 a)))) (λ b. b.1) (new.0 h)),
      λ h. new.1 (inr (here, subst (λ (l : List (List ℕ)). Among Means l x) e h)),
    )

    pub other_row : (Here → ⊥) → is ≡ was → New ↔ Among Means is x
    other_row there e =
        kept_row (λ h. ⊎_elim (λ a. a) (λ b. absurd (there b.0)) (new.0 h), λ h. new.1 (inl h)) e

-- the entries of a list that has one more
module _ (rows : List (List (List ℕ))) (names : List (List ℕ)) where
  pub at_last : (k : ℕ) → k ≡ length rows → get_or (rows ++ names ∷ []) k [] ≡ names
  at_last k e = get_or_push rows names [] k (sym e)

  pub past_last : (k : ℕ) → k ≡ length rows → get_or rows k [] ≡ []
  past_last k e = get_or_past rows k [] (omega arith)

  pub at_others : (k : ℕ) → k ≢ length rows → get_or (rows ++ names ∷ []) k [] ≡ get_or rows k []
  at_others k other =
      ⊎_elim
      (λ (low : k < length rows). get_or_append_left rows (names ∷ []) [] k low)
      (λ (past : length rows ≤ k).
      let one = length_push rows names in
      let long : length (rows ++ names ∷ []) ≤ k = omega arith in
      get_or_past (rows ++ names ∷ []) k [] long ∙ sym (get_or_past rows k [] past))
      (cases_lt k (length rows))
