-- What stands in a list with one more element.
use Rattle.std.proofs.Common.{◌≡◌, ℕ, zero, suc, List, [], ◌∷◌, ◌++◌, Some, refl, ap, length, inl, inr, ◌⊎◌}
use Rattle.std.specs.Prelude.{slice_get}

pub pushed : {X : Type 0} (xs : List X) (y x : X) (k : ℕ) → slice_get (xs ++ y ∷ []) k ≡ Some x → (slice_get xs k ≡ Some x) ⊎ ((k ≡ length xs) × (y ≡ x))
pushed [] y x zero e = inr (refl, cc)
pushed [] y x (suc k) e = absurd (cc)
pushed (z ∷ xs) y x zero e = inl e
pushed (z ∷ xs) y x (suc k) e = elim (pushed xs y x k e) [ inl there ↦ inl there | inr last ↦ inr (ap suc last.0, last.1) ]
