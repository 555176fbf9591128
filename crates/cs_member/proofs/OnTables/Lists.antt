-- Entries that are added to lists by number.
use Rattle.std.proofs.Common.{◌≡◌, ℕ, ◌⊎◌, inl, inr, List, [], ◌∷◌, ◌++◌, Some, length, sym, ap, ◌∙◌, subst}
use Rattle.std.specs.Prelude.{Contains, slice_get}
use Rattle.std.specs.Global.{Vec}
use Rattle.std.proofs.Math.ListN.{length-set}
use Rattle.std.proofs.lemmas.Bool.{cases_eq}
use Rattle.std.proofs.lemmas.Option.{slice_get_within, same_Some}
use Rattle.std.proofs.lemmas.List.Elements.{Contains-push, Contains-push_cases, Contains-append_left}
use Rattle.cs_member.specs.Tables.Adding.{IsAdded, HasAt}
use Rattle.cs_member.proofs.OnTables.Places.{at_set, at_set_cases, at_set_other}

module _ {X : Type 0} (n : ℕ) (entry : X) (old new : List (Vec X)) (added : IsAdded n entry old new) where
  pub added_size : length new ≡ length old
  added_size = ap (λ (l : List (Vec X)). length l) added.lists ∙ length-set old n added.longer

  placed : slice_get new n ≡ Some added.longer
  placed = ap (λ (l : List (Vec X)). slice_get l n) added.lists ∙ at_set old n added.longer (slice_get_within old n added.list added.was)

  pub added_here : HasAt new n entry
  added_here = (added.longer, placed, subst (λ (l : List X). Contains l entry) (sym added.is) (Contains-push added.list.items entry))

  pub added_before : (d : ℕ) (e : X) → HasAt old d e → HasAt new d e
  added_before d e h = elim (cases_eq d n) [
    | inl same ↦
        let list : h.0 ≡ added.list = same_Some h.0 added.list (sym h.1 ∙ (ap (λ k. slice_get old k) same ∙ added.was)) in
        let has : Contains added.list.items e = subst (λ (v : Vec X). Contains v.items e) list h.2 in (
          added.longer,
          ap (λ k. slice_get new k) same ∙ placed,
          subst (λ (l : List X). Contains l e) (sym added.is) (Contains-append_left added.list.items (entry ∷ []) e has),
        )
    | inr other ↦ (h.0, ap (λ (l : List (Vec X)). slice_get l d) added.lists ∙ at_set_other old n d added.longer h.0 other h.1, h.2)
  ]

  pub added_cases : (d : ℕ) (e : X) → HasAt new d e → HasAt old d e ⊎ ((d ≡ n) × (e ≡ entry))
  added_cases d e h = elim (at_set_cases old n d added.longer h.0 (ap (λ (l : List (Vec X)). slice_get l d) (sym added.lists) ∙ h.1)) [
    | inl here ↦
        let has : Contains (added.list.items ++ entry ∷ []) e = subst (λ (l : List X). Contains l e) (ap (λ (v : Vec X). v.items) (sym here.1) ∙ added.is) h.2 in
        elim (Contains-push_cases added.list.items entry e has) [
          | inl was ↦ inl (added.list, ap (λ k. slice_get old k) here.0 ∙ added.was, was)
          | inr now ↦ inr (here.0, sym now)
        ]
    | inr other ↦ inl (h.0, other, h.2)
  ]
