-- Names taken one by one: what those that were taken add.
use Rattle.std.proofs.Common.{◌≡◌, ℕ, ◌<◌, ◌≤◌, List, [], ◌∷◌, ◌++◌, refl, sym, ap, ◌∙◌, subst, ⊎_elim, inl, inr, ◌⊎◌, ◌↔◌, append_assoc, append-nil, arith}
use Rattle.std.specs.Prelude.{All}
use Rattle.std.specs.List.{Contains}
use Rattle.std.proofs.lemmas.Bool.{cases_lt}
use Rattle.std.proofs.lemmas.List.Elements.{All-nil, All-push, All-contains, Contains-push, Contains-push_cases, Contains-append_left, Contains-append_right}
use Rattle.cs_lines.specs.Words.Names.{IsFirstNamed}

-- two numbers with a name that are the first are one
pub one_named : (many : ℕ) (name_of : ℕ → List ℕ) (name : List ℕ) (a b : ℕ) → IsFirstNamed many name_of name a → IsFirstNamed many name_of name b → a ≡ b
one_named many name_of name a b h k =
    ⊎_elim (λ (less : a < b). absurd (k.first a h.is_number less h.named))
    (λ (other : b ≤ a).
    ⊎_elim (λ (less : b < a). absurd (h.first b k.is_number less k.named)) (λ (same : a ≤ b). let e : a ≡ b = omega arith in e) (cases_lt b a))
    (cases_lt a b)

-- names that were taken, each of them so, with what was put, and those that are left
pub record AreTaken (IsSo : List ℕ → Type 0) (IsPut : List (List ℕ) → Type 0) (all left : List (List ℕ)) : Type 0 where
  pub taken : List (List ℕ)
  pub place : all ≡ taken ++ left
  pub known : All IsSo taken
  pub put : IsPut taken

module _ (IsSo : List ℕ → Type 0) (IsPut : List (List ℕ) → Type 0) (all : List (List ℕ)) where
  pub taken_none : IsPut [] → AreTaken IsSo IsPut all all
  taken_none put = record { taken = []; place = refl; known = All-nil IsSo; put = put }

  module _ (left : List (List ℕ)) (h : AreTaken IsSo IsPut all left) where
    pub taken_all : left ≡ [] → All IsSo all × IsPut all
    taken_all none =
        let e : all ≡ h.taken = h.place ∙ ap (λ (l : List (List ℕ)). h.taken ++ l) none ∙ append-nil h.taken in
        (subst (λ (l : List (List ℕ)). All IsSo l) (sym e) h.known, subst IsPut (sym e) h.put)

    pub taken_not : (name : List ℕ) (others : List (List ℕ)) → left ≡ name ∷ others → (IsSo name → ⊥) → All IsSo all → ⊥
    taken_not name others is never each =
        let whole : All IsSo (h.taken ++ name ∷ others) = subst (λ (l : List (List ℕ)). All IsSo l) (h.place ∙ ap (λ (l : List (List ℕ)). h.taken ++ l) is) each in
        never (All-contains IsSo (h.taken ++ name ∷ others) name whole (Contains-append_right h.taken (name ∷ others) name (0, omega arith, refl)))

-- what is put need not be the same before and after a name is taken
pub taken_more : (IsSo : List ℕ → Type 0) (WasPut IsPut : List (List ℕ) → Type 0) (all left : List (List ℕ)) → AreTaken IsSo WasPut all left → (name : List ℕ) (others : List (List ℕ)) → left ≡ name ∷ others → IsSo name → ((taken : List (List ℕ)) → WasPut taken → IsPut (taken ++ name ∷ [])) → AreTaken IsSo IsPut all others
taken_more IsSo WasPut IsPut all left h name others is so more = record {
  taken = h.taken ++ name ∷ [];
  place = h.place ∙ ap (λ (l : List (List ℕ)). h.taken ++ l) is ∙ sym (append_assoc h.taken (name ∷ []) others);
  known = All-push IsSo h.taken name h.known so;
  put = more h.taken h.put;
}

-- one of these names has this meaning
abbrev pub Among : {X : Type 0} → (List ℕ → X → Type 0) → List (List ℕ) → X → Type 0
Among Means names x = (name : List ℕ) × Contains names name × Means name x

-- what holds already, or what a name that was taken means where that may be
abbrev pub IsAdded : {X : Type 0} → (List ℕ → X → Type 0) → (X → Type 0) → List (List ℕ) → (X → Type 0) → (X → Type 0) → Type 0
IsAdded {X} Means May names Old New = (x : X) → New x ↔ (Old x ⊎ (May x × Among Means names x))

module _ {X : Type 0} (Means : List ℕ → X → Type 0) (May Old : X → Type 0) where
  pub added_none : IsAdded Means May [] Old Old
  added_none x = (λ h. inl h, λ h. ⊎_elim (λ a. a) (λ b. absurd (let low = b.1.1.1 in omega arith)) h)

  module _ (Mid New : X → Type 0) (names : List (List ℕ)) (name : List ℕ) where
    pub added_more : IsAdded Means May names Old Mid → ((x : X) → New x ↔ (Mid x ⊎ (May x × Means name x))) → IsAdded Means May (names ++ name ∷ []) Old New
    added_more before here x = (
      λ h. ⊎_elim
          (λ was. ⊎_elim (λ a. inl a) (λ b. inr (b.0, (b.1.0, Contains-append_left names (name ∷ []) b.1.0 b.1.1, b.1.2))) ((before x).0 was))
          (λ now. inr (now.0, (name, Contains-push names name, now.1)))
          ((here x).0 h),
      λ h. (here x).1 (⊎_elim
          (λ a. inl ((before x).1 (inl a)))
          (λ b. ⊎_elim
          (λ within. inl ((before x).1 (inr (b.0, (b.1.0, within, b.1.2)))))
          (λ last. inr (b.0, subst (λ (n : List ℕ). Means n x) (sym last) b.1.2))
          (Contains-push_cases names name b.1.0 b.1.1))
          h),
    )
