-- In a layout no name is defined again.
use Rattle.std.proofs.Common.{◌≡◌, ℕ, zero, suc, false, List, [], ◌∷◌, ◌++◌, Some, slice_get, take, sym, ap, subst, ◌⊎◌, inl, inr}
use Rattle.cs_lex.specs.declared.layout.parts.Definition.{Definition}
use Rattle.cs_lex.specs.Layout.Steps.{Walk, here, step}
use Rattle.cs_lex.specs.Layout.Layout.{bytes_of, names_of, has_name, HaveNewNames, DefinitionsPlace, DefinitionsLine, passed, definition}
use Rattle.cs_lex.specs.Layout.Laws.{DefinesNoNameAgain}

-- what stands in a list with one more at its end: it was there, behind as many, or is that one
got_push : {X : Type 0} (xs : List X) (x : X) (k : ℕ) (y : X) → slice_get (xs ++ x ∷ []) k ≡ Some y
    → ((slice_get xs k ≡ Some y) × (take k (xs ++ x ∷ []) ≡ take k xs)) ⊎ ((y ≡ x) × (take k (xs ++ x ∷ []) ≡ xs))
got_push [] x zero y e = inr (cc, λ i. [])
got_push [] x (suc k) y e = absurd cc
got_push (z ∷ xs) x zero y e = inl (e, λ i. [])
got_push {X = X} (z ∷ xs) x (suc k) y e = up (got_push xs x k y e)
  where
    up : ((slice_get xs k ≡ Some y) × (take k (xs ++ x ∷ []) ≡ take k xs)) ⊎ ((y ≡ x) × (take k (xs ++ x ∷ []) ≡ xs))
        → ((slice_get xs k ≡ Some y) × (z ∷ take k (xs ++ x ∷ []) ≡ z ∷ take k xs)) ⊎ ((y ≡ x) × (z ∷ take k (xs ++ x ∷ []) ≡ z ∷ xs))
    up (inl h) = inl (h.0, ap (λ (ys : List X). z ∷ ys) h.1)
    up (inr h) = inr (h.0, ap (λ (ys : List X). z ∷ ys) h.1)

new_push : (bytes : List ℕ) (ds : List Definition) (d : Definition) → HaveNewNames bytes ds → has_name (names_of bytes ds) (bytes_of bytes d.name) ≡ false → HaveNewNames bytes (ds ++ d ∷ [])
new_push bytes ds d h new k e got = by_case (got_push ds d k e got)
  where
    by_case : ((slice_get ds k ≡ Some e) × (take k (ds ++ d ∷ []) ≡ take k ds)) ⊎ ((e ≡ d) × (take k (ds ++ d ∷ []) ≡ ds))
        → has_name (names_of bytes (take k (ds ++ d ∷ []))) (bytes_of bytes e.name) ≡ false
    by_case (inl p) = subst (λ (xs : List Definition). has_name (names_of bytes xs) (bytes_of bytes e.name) ≡ false) (sym p.1) (h k e p.0)
    by_case (inr p) =
        subst (λ (xs : List Definition). has_name (names_of bytes xs) (bytes_of bytes e.name) ≡ false) (sym p.1)
        (subst (λ (x : Definition). has_name (names_of bytes ds) (bytes_of bytes x.name) ≡ false) (sym p.0) new)

walk_new : (bytes : List ℕ) {s t : DefinitionsPlace} → Walk (DefinitionsLine bytes) s t → HaveNewNames bytes s.definitions → HaveNewNames bytes t.definitions
walk_new bytes here h = h
walk_new bytes (step {s = s} {t = t} (passed size p e) rest) h = walk_new bytes rest (subst (λ (x : DefinitionsPlace). HaveNewNames bytes x.definitions) (sym e) h)
walk_new bytes (step {s = s} {t = t} (definition d def new e) rest) h = walk_new bytes rest (subst (λ (x : DefinitionsPlace). HaveNewNames bytes x.definitions) (sym e) (new_push bytes s.definitions d h new))

pub new_names : (bytes : List ℕ) → DefinesNoNameAgain bytes
new_names bytes ds rs h = walk_new bytes h.definitions.lines (λ k d e. absurd cc)
