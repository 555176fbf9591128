-- Clean lists of lines, one line after another, and that the first fault is one.
use Rattle.std.proofs.Common.{◌≡◌, ℕ, ◌+◌, List, [], ◌∷◌, ◌++◌, length, refl, sym, ap, ◌∙◌, subst, append_assoc, arith}
use Rattle.std.proofs.lemmas.List.{same_from_push}
use Rattle.cs_check.specs.Passing.First.{IsFaultless, IsClean, IsLowest, IsFirstFault}

pub data Back {A : Type 0} (l : List A) : Type 0 where
  Bare : l ≡ [] → Back l
  Ended : (init : List A) → (last : A) → l ≡ init ++ last ∷ [] → Back l

pub back : {A : Type 0} (l : List A) → Back l
back [] = Bare refl
back {A} (x ∷ l) = elim (back l) [
  | Bare e ↦ Ended [] x (ap (λ (s : List A). x ∷ s) e)
  | Ended init last e ↦ Ended (x ∷ init) last (ap (λ (s : List A). x ∷ s) e)
]

-- two places of one list
data Places {A : Type 0} (above : List A) (line : A) (above' : List A) (line' : A) : Type 0 where
  Same : above ≡ above' → line ≡ line' → Places above line above' line'
  Earlier : (between : List A) → above' ≡ above ++ line ∷ between → Places above line above' line'
  Later : (between : List A) → above ≡ above' ++ line' ∷ between → Places above line above' line'

places : {A : Type 0} (above : List A) (line : A) (below above' : List A) (line' : A) (below' : List A) → above ++ line ∷ below ≡ above' ++ line' ∷ below' → Places above line above' line'
places [] line below [] line' below' e = Same refl (cc)
places [] line below (x ∷ above') line' below' e = let same : x ≡ line = cc in Earlier above' (ap (λ y. y ∷ above') same)
places (x ∷ above) line below [] line' below' e = let same : x ≡ line' = cc in Later above (ap (λ y. y ∷ above) same)
places {A} (x ∷ above) line below (y ∷ above') line' below' e =
    let same : x ≡ y = cc in
    elim (places above line below above' line' below' (cc)) [
      | Same is is_line ↦ Same (cc) is_line
      | Earlier between is ↦ Earlier between (cc)
      | Later between is ↦ Later between (cc)
    ]

module _ {L F : Type 0} (HasFault : List L → L → F → Type 0) where
  no_line : (above : List L) (line : L) (below : List L) → [] ≡ above ++ line ∷ below → ⊥
  no_line [] line below e = absurd cc
  no_line (x ∷ above) line below e = absurd cc

  pub clean_none : IsClean HasFault []
  clean_none above line below e = absurd (no_line above line below e)

  pub clean_push : (lines : List L) (line : L) → IsClean HasFault lines → IsFaultless HasFault lines line → IsClean HasFault (lines ++ line ∷ [])
  clean_push lines line clean faultless above l below e f has =
      elim (back below) [
        | Bare none ↦
            (let same = same_from_push lines above line l (e ∙ ap (λ (s : List L). above ++ l ∷ s) none) in
            faultless f (subst (λ (s : List L). HasFault s line f) (sym same.0) (subst (λ (m : L). HasFault above m f) (sym same.1) has)))
        | Ended init y ends ↦
            (let same = same_from_push lines (above ++ l ∷ init) line y (e ∙ ap (λ (s : List L). above ++ l ∷ s) ends ∙ sym (append_assoc above (l ∷ init) (y ∷ []))) in
            clean above l init same.0 f has)
      ]

  module _ (number : F → ℕ) where
    pub first_here : (lines above : List L) (line : L) (below : List L) (n : ℕ) (f : F) → lines ≡ above ++ line ∷ below → n ≡ length above + 1 → IsClean HasFault above → IsLowest HasFault number above line f → IsFirstFault HasFault number lines n f
    first_here lines above line below n f place numbered clean lowest = record {
      above = above;
      line = line;
      below = below;
      place = place;
      numbered = numbered;
      clean = clean;
      lowest = lowest;
    }

    pub never_clean : (lines : List L) (n : ℕ) (f : F) → IsFirstFault HasFault number lines n f → IsClean HasFault lines → ⊥
    never_clean lines n f first clean = clean first.above first.line first.below first.place f first.lowest.has

    pub one_first : ((f g : F) → number f ≡ number g → f ≡ g) → (lines : List L) (n m : ℕ) (f g : F) → IsFirstFault HasFault number lines n f → IsFirstFault HasFault number lines m g → (n ≡ m) × (f ≡ g)
    one_first apart lines n m f g h k =
        elim (places h.above h.line h.below k.above k.line k.below (sym h.place ∙ k.place)) [
          | Same is is_line ↦
              (let g_here : HasFault h.above h.line g = subst (λ (s : List L). HasFault s h.line g) (sym is) (subst (λ (l : L). HasFault k.above l g) (sym is_line) k.lowest.has) in
              let f_there : HasFault k.above k.line f = subst (λ (s : List L). HasFault s k.line f) is (subst (λ (l : L). HasFault h.above l f) is_line h.lowest.has) in
              let low = h.lowest.lowest g g_here in
              let high = k.lowest.lowest f f_there in
              (h.numbered ∙ ap (λ (s : List L). length s + 1) is ∙ sym k.numbered, apart f g (omega arith)))
          | Earlier between is ↦ absurd (k.clean h.above h.line between is f h.lowest.has)
          | Later between is ↦ absurd (h.clean k.above k.line between is g k.lowest.has)
        ]
