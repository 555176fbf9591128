-- The places that may come next are those that what stands behind the places starts with.
use Rattle.std.proofs.Common.{◌≡◌, ℕ, Bool, true, List, [], ◌∷◌, ◌⊎◌, inl, inr, refl, sym, ap, ◌∙◌, subst, arith, Contains}
use Rattle.std.specs.Prelude.{◌&&◌, ◌||◌, if◌then◌else◌}
use Rattle.std.proofs.lemmas.Bool.{false≢true, and_parts, and_from, or_cases, or_left, or_right}
use Rattle.std.proofs.lemmas.List.Elements.{Contains-append_left, Contains-append_right, Contains-append_cases}
use Rattle.cs_scanner.specs.Automaton.Re.{Re, empty, letter, nothing, cat, alt, many}
use Rattle.cs_scanner.specs.Automaton.Linear.{nullable, all_nullable, First, Starts, Stands}
use Rattle.cs_scanner.specs.Automaton.Places.{NumberedClass}
use Rattle.cs_scanner.specs.Automaton.Exits.{final, exit, nexts}
use Rattle.cs_scanner.proofs.OnAutomaton.Lists.{in_one, none_of}

module _ (S : ℕ → Bool) where
  -- what starts behind the pattern starts behind the place, and what ends behind it ends there
  pub record Leaves (rs mid : List (Re NumberedClass)) : Type 0 where
    pub starts : (b : NumberedClass) (last : List (Re NumberedClass)) → Starts rs b last → Starts mid b last
    pub ends : all_nullable rs ≡ true → all_nullable mid ≡ true

  pub record Final (r : Re NumberedClass) (rs : List (Re NumberedClass)) : Type 0 where
    pub place : NumberedClass
    pub mid : List (Re NumberedClass)
    pub stands : Stands r rs place mid
    pub marked : S place.number ≡ true
    pub leaves : Leaves rs mid

  pub final_stands : (r : Re NumberedClass) (rs : List (Re NumberedClass)) → final S r ≡ true → Final r rs
  final_stands empty rs h = absurd (false≢true h)
  final_stands (letter a) rs h =
      record { place = a; mid = rs; stands = (refl, refl); marked = h; leaves = record { starts = λ b last s. s; ends = λ e. e } }
  final_stands nothing rs h = absurd (false≢true h)
  final_stands (cat r s) rs h =
      elim (or_cases (final S r && nullable s) (final S s) h) [
        | inl both ↦
            let two = and_parts (final S r) (nullable s) both in
            let f = final_stands r (s ∷ rs) two.0 in
            record {
              place = f.place;
              mid = f.mid;
              stands = inl f.stands;
              marked = f.marked;
              leaves = record {
                starts = λ b last t. f.leaves.starts b last (inr (two.1, t));
                ends = λ e. f.leaves.ends (and_from (nullable s) (all_nullable rs) two.1 e);
              };
            }
        | inr g ↦
            let f = final_stands s rs g in
            record { place = f.place; mid = f.mid; stands = inr f.stands; marked = f.marked; leaves = f.leaves }
      ]
  final_stands (alt r s) rs h =
      elim (or_cases (final S r) (final S s) h) [
        | inl g ↦
            let f = final_stands r rs g in
            record { place = f.place; mid = f.mid; stands = inl f.stands; marked = f.marked; leaves = f.leaves }
        | inr g ↦
            let f = final_stands s rs g in
            record { place = f.place; mid = f.mid; stands = inr f.stands; marked = f.marked; leaves = f.leaves }
      ]
  final_stands (many r) rs h =
      let f = final_stands r (many r ∷ rs) h in
      record {
        place = f.place;
        mid = f.mid;
        stands = f.stands;
        marked = f.marked;
        leaves = record {
          starts = λ b last t. f.leaves.starts b last (inr (refl, t));
          ends = λ e. f.leaves.ends (and_from true (all_nullable rs) refl e);
        };
      }

  -- ---- what comes next is found

  pub first_next : (r : Re NumberedClass) (rs : List (Re NumberedClass)) (entered : Bool) (b : NumberedClass) (last : List (Re NumberedClass)) → entered ≡ true → First r rs b last → Contains (nexts S r entered) b.number
  first_next empty rs entered b last e f = absurd f
  first_next (letter a) rs entered b last e f =
      let P : Bool → Type 0 = λ t. Contains (if t then a.number ∷ [] else []) b.number in
      subst P (sym e) (0, omega arith, ap (λ t. t.number) (sym f.0))
  first_next nothing rs entered b last e f = absurd f
  first_next (cat r s) rs entered b last e (inl f) = Contains-append_left (nexts S r entered) (nexts S s (exit S r entered)) b.number (first_next r (s ∷ rs) entered b last e f)
  first_next (cat r s) rs entered b last e (inr f) =
      let through = or_left (entered && nullable r) (final S r) (and_from entered (nullable r) e f.0) in
      Contains-append_right (nexts S r entered) (nexts S s (exit S r entered)) b.number (first_next s rs (exit S r entered) b last through f.1)
  first_next (alt r s) rs entered b last e (inl f) = Contains-append_left (nexts S r entered) (nexts S s entered) b.number (first_next r rs entered b last e f)
  first_next (alt r s) rs entered b last e (inr f) = Contains-append_right (nexts S r entered) (nexts S s entered) b.number (first_next s rs entered b last e f)
  first_next (many r) rs entered b last e f = first_next r (many r ∷ rs) (entered || final S r) b last (or_left entered (final S r) e) f

  pub behind_next : (r : Re NumberedClass) (rs : List (Re NumberedClass)) (entered : Bool) (k : NumberedClass) (mid : List (Re NumberedClass)) (b : NumberedClass) (last : List (Re NumberedClass)) → Stands r rs k mid → S k.number ≡ true → Starts mid b last → Contains (nexts S r entered) b.number ⊎ ((final S r ≡ true) × Starts rs b last)
  behind_next empty rs entered k mid b last f m s = absurd f
  behind_next (letter a) rs entered k mid b last f m s = inr (ap (λ t. S t.number) (sym f.0) ∙ m, subst (λ t. Starts t b last) f.1 s)
  behind_next nothing rs entered k mid b last f m s = absurd f
  behind_next (cat r t) rs entered k mid b last (inl f) m s =
      elim (behind_next r (t ∷ rs) entered k mid b last f m s) [
        | inl c ↦ inl (Contains-append_left (nexts S r entered) (nexts S t (exit S r entered)) b.number c)
        | inr (e, inl g) ↦ inl (Contains-append_right (nexts S r entered) (nexts S t (exit S r entered)) b.number (first_next t rs (exit S r entered) b last (or_right (entered && nullable r) (final S r) e) g))
        | inr (e, inr g) ↦ inr (or_left (final S r && nullable t) (final S t) (and_from (final S r) (nullable t) e g.0), g.1)
      ]
  behind_next (cat r t) rs entered k mid b last (inr f) m s =
      elim (behind_next t rs (exit S r entered) k mid b last f m s) [
        | inl c ↦ inl (Contains-append_right (nexts S r entered) (nexts S t (exit S r entered)) b.number c)
        | inr g ↦ inr (or_right (final S r && nullable t) (final S t) g.0, g.1)
      ]
  behind_next (alt r t) rs entered k mid b last (inl f) m s =
      elim (behind_next r rs entered k mid b last f m s) [
        | inl c ↦ inl (Contains-append_left (nexts S r entered) (nexts S t entered) b.number c)
        | inr g ↦ inr (or_left (final S r) (final S t) g.0, g.1)
      ]
  behind_next (alt r t) rs entered k mid b last (inr f) m s =
      elim (behind_next t rs entered k mid b last f m s) [
        | inl c ↦ inl (Contains-append_right (nexts S r entered) (nexts S t entered) b.number c)
        | inr g ↦ inr (or_right (final S r) (final S t) g.0, g.1)
      ]
  behind_next (many r) rs entered k mid b last f m s =
      elim (behind_next r (many r ∷ rs) (entered || final S r) k mid b last f m s) [
        | inl c ↦ inl c
        | inr (e, inl g) ↦ inl (first_next r (many r ∷ rs) (entered || final S r) b last (or_right entered (final S r) e) g)
        | inr (e, inr g) ↦ inr (e, g.1)
      ]

  -- where a word may end at a marked place
  pub ends_final : (r : Re NumberedClass) (rs : List (Re NumberedClass)) (k : NumberedClass) (mid : List (Re NumberedClass)) → Stands r rs k mid → S k.number ≡ true → all_nullable mid ≡ true → (final S r ≡ true) × (all_nullable rs ≡ true)
  ends_final empty rs k mid f m h = absurd f
  ends_final (letter a) rs k mid f m h = (ap (λ t. S t.number) (sym f.0) ∙ m, ap (λ t. all_nullable t) (sym f.1) ∙ h)
  ends_final nothing rs k mid f m h = absurd f
  ends_final (cat r t) rs k mid (inl f) m h =
      let g = ends_final r (t ∷ rs) k mid f m h in
      let two = and_parts (nullable t) (all_nullable rs) g.1 in
      (or_left (final S r && nullable t) (final S t) (and_from (final S r) (nullable t) g.0 two.0), two.1)
  ends_final (cat r t) rs k mid (inr f) m h =
      let g = ends_final t rs k mid f m h in
      (or_right (final S r && nullable t) (final S t) g.0, g.1)
  ends_final (alt r t) rs k mid (inl f) m h =
      let g = ends_final r rs k mid f m h in
      (or_left (final S r) (final S t) g.0, g.1)
  ends_final (alt r t) rs k mid (inr f) m h =
      let g = ends_final t rs k mid f m h in
      (or_right (final S r) (final S t) g.0, g.1)
  ends_final (many r) rs k mid f m h =
      let g = ends_final r (many r ∷ rs) k mid f m h in
      (g.0, (and_parts true (all_nullable rs) g.1).1)

  -- ---- and nothing else is

  -- the pattern is entered and starts with the place, or it comes behind a marked one
  pub data Comes (r : Re NumberedClass) (rs : List (Re NumberedClass)) (entered : Bool) (b : NumberedClass) (last : List (Re NumberedClass)) : Type 0 where
    entering : entered ≡ true → First r rs b last → Comes r rs entered b last
    behind : (k : NumberedClass) (mid : List (Re NumberedClass)) → Stands r rs k mid → S k.number ≡ true → Starts mid b last → Comes r rs entered b last

  pub record ComesAs (r : Re NumberedClass) (rs : List (Re NumberedClass)) (entered : Bool) (n : ℕ) : Type 0 where
    pub place : NumberedClass
    pub last : List (Re NumberedClass)
    pub number : place.number ≡ n
    pub comes : Comes r rs entered place last

  cat_left : (r t : Re NumberedClass) (rs : List (Re NumberedClass)) (entered : Bool) {b : NumberedClass} {last : List (Re NumberedClass)} → Comes r (t ∷ rs) entered b last → Comes (cat r t) rs entered b last
  cat_left r t rs entered (entering e f) = entering e (inl f)
  cat_left r t rs entered (behind k mid f m s) = behind k mid (inl f) m s

  through : (r t : Re NumberedClass) (rs : List (Re NumberedClass)) (entered : Bool) (b : NumberedClass) (last : List (Re NumberedClass)) → exit S r entered ≡ true → First t rs b last → Comes (cat r t) rs entered b last
  through r t rs entered b last e f =
      elim (or_cases (entered && nullable r) (final S r) e) [
        | inl both ↦ let two = and_parts entered (nullable r) both in entering two.0 (inr (two.1, f))
        | inr g ↦ let p = final_stands r (t ∷ rs) g in behind p.place p.mid (inl p.stands) p.marked (p.leaves.starts b last (inl f))
      ]

  cat_right : (r t : Re NumberedClass) (rs : List (Re NumberedClass)) (entered : Bool) {b : NumberedClass} {last : List (Re NumberedClass)} → Comes t rs (exit S r entered) b last → Comes (cat r t) rs entered b last
  cat_right r t rs entered {b} {last} (entering e f) = through r t rs entered b last e f
  cat_right r t rs entered (behind k mid f m s) = behind k mid (inr f) m s

  alt_left : (r t : Re NumberedClass) (rs : List (Re NumberedClass)) (entered : Bool) {b : NumberedClass} {last : List (Re NumberedClass)} → Comes r rs entered b last → Comes (alt r t) rs entered b last
  alt_left r t rs entered (entering e f) = entering e (inl f)
  alt_left r t rs entered (behind k mid f m s) = behind k mid (inl f) m s

  alt_right : (r t : Re NumberedClass) (rs : List (Re NumberedClass)) (entered : Bool) {b : NumberedClass} {last : List (Re NumberedClass)} → Comes t rs entered b last → Comes (alt r t) rs entered b last
  alt_right r t rs entered (entering e f) = entering e (inr f)
  alt_right r t rs entered (behind k mid f m s) = behind k mid (inr f) m s

  around : (r : Re NumberedClass) (rs : List (Re NumberedClass)) (entered : Bool) {b : NumberedClass} {last : List (Re NumberedClass)} → Comes r (many r ∷ rs) (entered || final S r) b last → Comes (many r) rs entered b last
  around r rs entered {b} {last} (entering e f) =
      elim (or_cases entered (final S r) e) [
        | inl g ↦ entering g f
        | inr g ↦ let p = final_stands r (many r ∷ rs) g in behind p.place p.mid p.stands p.marked (p.leaves.starts b last (inl f))
      ]
  around r rs entered (behind k mid f m s) = behind k mid f m s

  pub next_comes : (r : Re NumberedClass) (rs : List (Re NumberedClass)) (entered : Bool) (n : ℕ) → Contains (nexts S r entered) n → ComesAs r rs entered n
  next_comes empty rs entered n h = absurd (none_of n h)
  next_comes (letter a) rs entered n h =
      let p = in_one entered a.number n h in
      record { place = a; last = rs; number = p.1; comes = entering p.0 (refl, refl) }
  next_comes nothing rs entered n h = absurd (none_of n h)
  next_comes (cat r t) rs entered n h =
      elim (Contains-append_cases (nexts S r entered) (nexts S t (exit S r entered)) n h) [
        | inl c ↦ let g = next_comes r (t ∷ rs) entered n c in record { place = g.place; last = g.last; number = g.number; comes = cat_left r t rs entered g.comes }
        | inr c ↦ let g = next_comes t rs (exit S r entered) n c in record { place = g.place; last = g.last; number = g.number; comes = cat_right r t rs entered g.comes }
      ]
  next_comes (alt r t) rs entered n h =
      elim (Contains-append_cases (nexts S r entered) (nexts S t entered) n h) [
        | inl c ↦ let g = next_comes r rs entered n c in record { place = g.place; last = g.last; number = g.number; comes = alt_left r t rs entered g.comes }
        | inr c ↦ let g = next_comes t rs entered n c in record { place = g.place; last = g.last; number = g.number; comes = alt_right r t rs entered g.comes }
      ]
  next_comes (many r) rs entered n h =
      let g = next_comes r (many r ∷ rs) (entered || final S r) n h in
      record { place = g.place; last = g.last; number = g.number; comes = around r rs entered g.comes }
