-- A full pattern spells something, and so does what may come behind a letter of it.
use Rattle.std.proofs.Common.{◌≡◌, ℕ, suc, ◌+◌, List, [], ◌∷◌, ◌++◌, ◌⊎◌, inl, inr, refl, sym, subst}
use Rattle.cs_scanner.specs.Automaton.Re.{Re, empty, letter, nothing, cat, alt, many, no_parts, Spells, SpellAll}
use Rattle.cs_scanner.specs.Automaton.Linear.{First, Starts}
use Rattle.cs_scanner.specs.Automaton.Places.{NumberedClass, letters, with_places, any_of, IsFull}

module _ {A : Type 0} (Kind : A → Type 0) where
  abbrev pub AllFull : List (Re A) → Type 0
  AllFull [] = Unit {0}
  AllFull (r ∷ rs) = IsFull Kind r × AllFull rs

  full_left : (r s : Re A) → IsFull Kind (alt r s) → IsFull Kind r
  full_left r empty h = h.0
  full_left r (letter a) h = h.0
  full_left r nothing h = h
  full_left r (cat s t) h = h.0
  full_left r (alt s t) h = h.0
  full_left r (many s) h = h.0

  full_right : (r s : Re A) → IsFull Kind (alt r s) → IsFull Kind s ⊎ (s ≡ nothing)
  full_right r empty h = inl h.1
  full_right r (letter a) h = inl h.1
  full_right r nothing h = inr refl
  full_right r (cat s t) h = inl h.1
  full_right r (alt s t) h = inl h.1
  full_right r (many s) h = inl h.1

  pub full_alt : (r s : Re A) → IsFull Kind r → IsFull Kind s → IsFull Kind (alt r s)
  full_alt r empty f g = (f, g)
  full_alt r (letter a) f g = (f, g)
  full_alt r nothing f g = f
  full_alt r (cat s t) f g = (f, g)
  full_alt r (alt s t) f g = (f, g)
  full_alt r (many s) f g = (f, g)

  pub first_full : (r : Re A) (rs : List (Re A)) (a : A) (next : List (Re A)) → IsFull Kind r → AllFull rs → First r rs a next → AllFull next
  first_full empty rs a next h hs f = absurd f
  first_full (letter b) rs a next h hs f = subst AllFull (sym f.1) hs
  first_full nothing rs a next h hs f = absurd f
  first_full (cat r s) rs a next h hs (inl f) = first_full r (s ∷ rs) a next h.0 (h.1, hs) f
  first_full (cat r s) rs a next h hs (inr f) = first_full s rs a next h.1 hs f.1
  first_full (alt r s) rs a next h hs (inl f) = first_full r rs a next (full_left r s h) hs f
  first_full (alt r s) rs a next h hs (inr f) =
      elim (full_right r s h) [
        | inl g ↦ first_full s rs a next g hs f
        | inr e ↦ absurd (subst (λ t. First t rs a next) e f)
      ]
  first_full (many r) rs a next h hs f = first_full r (many r ∷ rs) a next h (h, hs) f

  pub starts_full : (rs : List (Re A)) (a : A) (next : List (Re A)) → AllFull rs → Starts rs a next → AllFull next
  starts_full [] a next hs f = absurd f
  starts_full (r ∷ rs) a next hs (inl f) = first_full r rs a next hs.0 hs.1 f
  starts_full (r ∷ rs) a next hs (inr f) = starts_full rs a next hs.1 f.1

module _ {A B : Type 0} (Kind : A → Type 0) (Reads : A → B → Type 0) (some : (a : A) → Kind a → (b : B) × Reads a b) where
  pub full_spells : (r : Re A) → IsFull Kind r → (xs : List B) × Spells Reads r xs
  full_spells empty h = ([], refl)
  full_spells (letter a) h = let b = some a h in (b.0 ∷ [], (b.0, b.1, refl))
  full_spells nothing h = absurd h
  full_spells (cat r s) h =
      let x = full_spells r h.0 in
      let y = full_spells s h.1 in
      (x.0 ++ y.0, (x.0, y.0, x.1, y.1, refl))
  full_spells (alt r s) h = let x = full_spells r (full_left Kind r s h) in (x.0, inl x.1)
  full_spells (many r) h = ([], no_parts)

  pub all_full_spell : (rs : List (Re A)) → AllFull Kind rs → (xs : List B) × SpellAll Reads rs xs
  all_full_spell [] h = ([], refl)
  all_full_spell (r ∷ rs) h =
      let x = full_spells r h.0 in
      let y = all_full_spell rs h.1 in
      (x.0 ++ y.0, (x.0, y.0, x.1, y.1, refl))

-- ---- numbered patterns

module _ (Kind : List ℕ → Type 0) where
  abbrev pub KindOf : NumberedClass → Type 0
  KindOf a = Kind a.class

  pub numbered_full : (rule from : ℕ) (r : Re (List ℕ)) → IsFull Kind r → IsFull KindOf (with_places rule from r)
  numbered_full rule from empty h = tt
  numbered_full rule from (letter c) h = h
  numbered_full rule from nothing h = absurd h
  numbered_full rule from (cat r s) h = (numbered_full rule from r h.0, numbered_full rule (from + letters r) s h.1)
  numbered_full rule from (alt r s) h =
      let left = numbered_full rule from r (full_left Kind r s h) in
      elim (full_right Kind r s h) [
        | inl g ↦ full_alt KindOf (with_places rule from r) (with_places rule (from + letters r) s) left (numbered_full rule (from + letters r) s g)
        | inr e ↦ subst (λ (t : Re (List ℕ)). IsFull KindOf (alt (with_places rule from r) (with_places rule (from + letters r) t))) (sym e) left
      ]
  numbered_full rule from (many r) h = numbered_full rule from r h

  pub any_first_full : (rule from : ℕ) (ps : List (Re (List ℕ))) (a : NumberedClass) (next : List (Re NumberedClass)) → AllFull Kind ps → First (any_of rule from ps) [] a next → AllFull KindOf next
  any_first_full rule from [] a next h f = absurd f
  any_first_full rule from (p ∷ ps) a next h (inl f) = first_full KindOf (with_places rule from p) [] a next (numbered_full rule from p h.0) tt f
  any_first_full rule from (p ∷ ps) a next h (inr f) = any_first_full (suc rule) (from + letters p) ps a next h.1 f
