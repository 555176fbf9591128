-- What patterns spell, letter by letter.
use Rattle.std.proofs.Common.{◌≡◌, IsTrue, List, [], ◌∷◌, ◌++◌, inl, inr, refl, sym, ap, ◌∙◌, subst, append_assoc}
use Rattle.std.proofs.lemmas.Bool.{false≢true, and_parts, and_from, or_cases, or_left, or_right}
use Rattle.cs_scanner.specs.Automaton.Re.{Re, empty, letter, nothing, cat, alt, many, Parts, no_parts, one_more, Spells, SpellAll}
use Rattle.cs_scanner.specs.Automaton.Places.{ReadEach}
use Rattle.cs_scanner.specs.Automaton.Linear.{nullable, all_nullable, First, Starts, GoesBy}

-- two lists whose join is empty are empty
both_empty : {B : Type 0} (a b : List B) → [] ≡ a ++ b → (a ≡ []) × (b ≡ [])
both_empty [] b e = (refl, sym e)
both_empty (x ∷ a) b e = absurd cc

module _ {A B : Type 0} (Reads : A → B → Type 0) where
  -- ---- the empty list

  pub nullable_spells : (r : Re A) → IsTrue (nullable r) → Spells Reads r []
  nullable_spells empty h = refl
  nullable_spells (letter a) h = absurd (false≢true h)
  nullable_spells nothing h = absurd (false≢true h)
  nullable_spells (cat r s) h =
      let both = and_parts (nullable r) (nullable s) h in
      ([], [], nullable_spells r both.0, nullable_spells s both.1, refl)
  nullable_spells (alt r s) h =
      elim (or_cases (nullable r) (nullable s) h) [ inl a ↦ inl (nullable_spells r a) | inr b ↦ inr (nullable_spells s b) ]
  nullable_spells (many r) h = no_parts

  pub spells_nullable : (r : Re A) (xs : List B) → xs ≡ [] → Spells Reads r xs → IsTrue (nullable r)
  spells_nullable empty xs e h = refl
  spells_nullable (letter a) xs e h = let f = h.2 in absurd cc
  spells_nullable nothing xs e h = absurd h
  spells_nullable (cat r s) xs e h =
      let both = both_empty h.0 h.1 (sym e ∙ h.4) in
      and_from (nullable r) (nullable s) (spells_nullable r h.0 both.0 h.2) (spells_nullable s h.1 both.1 h.3)
  spells_nullable (alt r s) xs e (inl h) = or_left (nullable r) (nullable s) (spells_nullable r xs e h)
  spells_nullable (alt r s) xs e (inr h) = or_right (nullable r) (nullable s) (spells_nullable s xs e h)
  spells_nullable (many r) xs e h = refl

  -- ---- the first letter

  -- the front x of the list is spelled by r, and z behind it by rs: the first letter is one that may come first
  pub record BeginsAll (r : Re A) (rs : List (Re A)) (y : B) (ys : List B) : Type 0 where
    pub by : A
    pub next : List (Re A)
    pub first : First r rs by next
    pub reads : Reads by y
    pub others : SpellAll Reads next ys

  abbrev pub Firsts : Re A → Type 0
  Firsts r = (rs : List (Re A)) (x : List B) (y : B) (ys z : List B) → x ≡ y ∷ ys → Spells Reads r x → SpellAll Reads rs z → BeginsAll r rs y (ys ++ z)

  -- any number of parts
  many_first : (r : Re A) → Firsts r → (rs : List (Re A)) {x : List B} (y : B) (ys z : List B) → x ≡ y ∷ ys → Parts (Spells Reads r) x → SpellAll Reads rs z → BeginsAll (many r) rs y (ys ++ z)
  many_first r ih rs y ys z e no_parts h = absurd cc
  many_first r ih rs y ys z e (one_more [] v x p ps is) h = many_first r ih rs y ys z (sym is ∙ e) ps h
  many_first r ih rs y ys z e (one_more (c ∷ u) v x p ps is) h =
      let whole : y ∷ ys ≡ c ∷ (u ++ v) = sym e ∙ is in
      let head : c ≡ y = cc in
      let tail : ys ≡ u ++ v = cc in
      let b = ih (many r ∷ rs) (c ∷ u) y u (v ++ z) (ap (λ t. t ∷ u) head) p (v, z, ps, h, refl) in
      record { by = b.by; next = b.next; first = b.first; reads = b.reads; others = subst (λ t. SpellAll Reads b.next t) (sym (append_assoc u v z) ∙ sym (ap (λ t. t ++ z) tail)) b.others }

  cat_first : (r s : Re A) → Firsts r → Firsts s → (rs : List (Re A)) (x : List B) (y : B) (ys z : List B) → x ≡ y ∷ ys → (u v : List B) → Spells Reads r u → Spells Reads s v → x ≡ u ++ v → SpellAll Reads rs z → BeginsAll (cat r s) rs y (ys ++ z)
  cat_first r s fr fs rs x y ys z e [] v p q is h =
      let b = fs rs v y ys z (sym is ∙ e) q h in
      record { by = b.by; next = b.next; first = inr (spells_nullable r [] refl p, b.first); reads = b.reads; others = b.others }
  cat_first r s fr fs rs x y ys z e (c ∷ u) v p q is h =
      let whole : y ∷ ys ≡ c ∷ (u ++ v) = sym e ∙ is in
      let head : c ≡ y = cc in
      let tail : ys ≡ u ++ v = cc in
      let b = fr (s ∷ rs) (c ∷ u) y u (v ++ z) (ap (λ t. t ∷ u) head) p (v, z, q, h, refl) in
      record { by = b.by; next = b.next; first = inl b.first; reads = b.reads; others = subst (λ t. SpellAll Reads b.next t) (sym (append_assoc u v z) ∙ sym (ap (λ t. t ++ z) tail)) b.others }

  pub firsts : (r : Re A) → Firsts r
  firsts empty rs x y ys z e h hs = absurd cc
  firsts (letter a) rs x y ys z e h hs =
      let f = h.2 in
      let head : h.0 ≡ y = cc in
      let tail : ys ≡ [] = cc in
      record { by = a; next = rs; first = (refl, refl); reads = subst (λ t. Reads a t) head h.1; others = subst (λ t. SpellAll Reads rs (t ++ z)) (sym tail) hs }
  firsts nothing rs x y ys z e h hs = absurd h
  firsts (cat r s) rs x y ys z e h hs = cat_first r s (firsts r) (firsts s) rs x y ys z e h.0 h.1 h.2 h.3 h.4 hs
  firsts (alt r s) rs x y ys z e (inl h) hs =
      let b = firsts r rs x y ys z e h hs in
      record { by = b.by; next = b.next; first = inl b.first; reads = b.reads; others = b.others }
  firsts (alt r s) rs x y ys z e (inr h) hs =
      let b = firsts s rs x y ys z e h hs in
      record { by = b.by; next = b.next; first = inr b.first; reads = b.reads; others = b.others }
  firsts (many r) rs x y ys z e h hs = many_first r (firsts r) rs y ys z e h hs

  -- ---- and back

  -- r spells a front of the list, and rs the rest
  pub record Split (r : Re A) (rs : List (Re A)) (xs : List B) : Type 0 where
    pub front : List B
    pub rest : List B
    pub spelled : Spells Reads r front
    pub others : SpellAll Reads rs rest
    pub is : xs ≡ front ++ rest

  pub first_back : (r : Re A) (rs : List (Re A)) (a : A) (next : List (Re A)) (y : B) (ys : List B) → First r rs a next → Reads a y → SpellAll Reads next ys → Split r rs (y ∷ ys)
  first_back empty rs a next y ys f h hs = absurd f
  first_back (letter b) rs a next y ys f h hs =
      record { front = y ∷ []; rest = ys; spelled = (y, subst (λ t. Reads t y) f.0 h, refl); others = subst (λ t. SpellAll Reads t ys) f.1 hs; is = refl }
  first_back nothing rs a next y ys f h hs = absurd f
  first_back (cat r s) rs a next y ys (inl f) h hs =
      let b = first_back r (s ∷ rs) a next y ys f h hs in
      let o = b.others in
      record {
        front = b.front ++ o.0;
        rest = o.1;
        spelled = (b.front, o.0, b.spelled, o.2, refl);
        others = o.3;
        is = b.is ∙ ap (λ t. b.front ++ t) o.4 ∙ sym (append_assoc b.front o.0 o.1);
      }
  first_back (cat r s) rs a next y ys (inr f) h hs =
      let b = first_back s rs a next y ys f.1 h hs in
      record { front = b.front; rest = b.rest; spelled = ([], b.front, nullable_spells r f.0, b.spelled, refl); others = b.others; is = b.is }
  first_back (alt r s) rs a next y ys (inl f) h hs =
      let b = first_back r rs a next y ys f h hs in
      record { front = b.front; rest = b.rest; spelled = inl b.spelled; others = b.others; is = b.is }
  first_back (alt r s) rs a next y ys (inr f) h hs =
      let b = first_back s rs a next y ys f h hs in
      record { front = b.front; rest = b.rest; spelled = inr b.spelled; others = b.others; is = b.is }
  first_back (many r) rs a next y ys f h hs =
      let b = first_back r (many r ∷ rs) a next y ys f h hs in
      let o = b.others in
      record {
        front = b.front ++ o.0;
        rest = o.1;
        spelled = one_more b.front o.0 (b.front ++ o.0) b.spelled o.2 refl;
        others = o.3;
        is = b.is ∙ ap (λ t. b.front ++ t) o.4 ∙ sym (append_assoc b.front o.0 o.1);
      }

  -- ---- lists of patterns

  pub all_nullable_spells : (rs : List (Re A)) → IsTrue (all_nullable rs) → SpellAll Reads rs []
  all_nullable_spells [] h = refl
  all_nullable_spells (r ∷ rs) h =
      let both = and_parts (nullable r) (all_nullable rs) h in
      ([], [], nullable_spells r both.0, all_nullable_spells rs both.1, refl)

  pub spells_all_nullable : (rs : List (Re A)) (xs : List B) → xs ≡ [] → SpellAll Reads rs xs → IsTrue (all_nullable rs)
  spells_all_nullable [] xs e h = refl
  spells_all_nullable (r ∷ rs) xs e h =
      let both = both_empty h.0 h.1 (sym e ∙ h.4) in
      and_from (nullable r) (all_nullable rs) (spells_nullable r h.0 both.0 h.2) (spells_all_nullable rs h.1 both.1 h.3)

  -- the first letter that is read, and what stands behind it
  pub record StartsWith (rs : List (Re A)) (y : B) (ys : List B) : Type 0 where
    pub by : A
    pub next : List (Re A)
    pub first : Starts rs by next
    pub reads : Reads by y
    pub others : SpellAll Reads next ys

  starts_cons : (r : Re A) (rs : List (Re A)) (y : B) (ys u v : List B) → ((xs : List B) → y ∷ ys ≡ xs → SpellAll Reads rs xs → StartsWith rs y ys) → Spells Reads r u → SpellAll Reads rs v → y ∷ ys ≡ u ++ v → StartsWith (r ∷ rs) y ys
  starts_cons r rs y ys [] v ih p q e =
      let b = ih v e q in
      record { by = b.by; next = b.next; first = inr (spells_nullable r [] refl p, b.first); reads = b.reads; others = b.others }
  starts_cons r rs y ys (c ∷ u) v ih p q e =
      let head : c ≡ y = cc in
      let tail : ys ≡ u ++ v = cc in
      let b = firsts r rs (c ∷ u) y u v (ap (λ t. t ∷ u) head) p q in
      record { by = b.by; next = b.next; first = inl b.first; reads = b.reads; others = subst (λ t. SpellAll Reads b.next t) (sym tail) b.others }

  pub starts : (rs : List (Re A)) (y : B) (ys xs : List B) → y ∷ ys ≡ xs → SpellAll Reads rs xs → StartsWith rs y ys
  starts [] y ys xs e h = absurd cc
  starts (r ∷ rs) y ys xs e h = starts_cons r rs y ys h.0 h.1 (λ zs f s. starts rs y ys zs f s) h.2 h.3 (e ∙ h.4)

  pub starts_back : (rs : List (Re A)) (a : A) (next : List (Re A)) (y : B) (ys : List B) → Starts rs a next → Reads a y → SpellAll Reads next ys → SpellAll Reads rs (y ∷ ys)
  starts_back [] a next y ys s h hs = absurd s
  starts_back (r ∷ rs) a next y ys (inl f) h hs =
      let b = first_back r rs a next y ys f h hs in
      (b.front, b.rest, b.spelled, b.others, b.is)
  starts_back (r ∷ rs) a next y ys (inr f) h hs =
      ([], y ∷ ys, nullable_spells r f.0, starts_back rs a next y ys f.1 h hs, refl)

  -- ---- whole lists

  -- the patterns lead by some letters that read x, and what is left then spells the rest
  pub record Goes (rs : List (Re A)) (x y : List B) : Type 0 where
    pub letters : List A
    pub last : List (Re A)
    pub leads : GoesBy rs letters last
    pub read : ReadEach Reads letters x
    pub others : SpellAll Reads last y

  pub goes : (x y : List B) (rs : List (Re A)) → SpellAll Reads rs (x ++ y) → Goes rs x y
  goes [] y rs h = record { letters = []; last = rs; leads = refl; read = refl; others = h }
  goes (b ∷ x) y rs h =
      let s = starts rs b (x ++ y) (b ∷ (x ++ y)) refl h in
      let g = goes x y s.next s.others in
      record { letters = s.by ∷ g.letters; last = g.last; leads = (s.next, s.first, g.leads); read = (s.reads, g.read); others = g.others }

  pub goes_back : (letters : List A) (x y : List B) (rs last : List (Re A)) → GoesBy rs letters last → ReadEach Reads letters x → SpellAll Reads last y → SpellAll Reads rs (x ++ y)
  goes_back [] x y rs last l r h = subst (λ t. SpellAll Reads rs (t ++ y)) (sym r) (subst (λ t. SpellAll Reads t y) (sym l) h)
  goes_back (a ∷ more) [] y rs last l r h = absurd r
  goes_back (a ∷ more) (b ∷ x) y rs last l r h =
      starts_back rs a l.0 b (x ++ y) l.1 r.0 (goes_back more x y l.0 last l.2 r.1 h)
