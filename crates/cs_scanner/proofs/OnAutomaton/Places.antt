-- Where places stand, and that a number has one place.
use Rattle.std.proofs.Common.{◌≡◌, ℕ, suc, ◌+◌, ◌<◌, ◌≤◌, List, [], ◌∷◌, ◌++◌, ◌⊎◌, inl, inr, sym, ap, ◌∙◌, subst, arith}
use Rattle.cs_scanner.specs.Automaton.Re.{Re, empty, letter, nothing, cat, alt, many}
use Rattle.cs_scanner.specs.Automaton.Linear.{First, Starts, GoesBy, Stands}
use Rattle.cs_scanner.specs.Automaton.Places.{NumberedClass, letters, with_places, any_of}

module _ {A : Type 0} where
  -- what may come first stands in the pattern
  pub first_stands : (r : Re A) (rs : List (Re A)) (a : A) (next : List (Re A)) → First r rs a next → Stands r rs a next
  first_stands empty rs a next f = f
  first_stands (letter b) rs a next f = f
  first_stands nothing rs a next f = f
  first_stands (cat r s) rs a next (inl f) = inl (first_stands r (s ∷ rs) a next f)
  first_stands (cat r s) rs a next (inr f) = inr (first_stands s rs a next f.1)
  first_stands (alt r s) rs a next (inl f) = inl (first_stands r rs a next f)
  first_stands (alt r s) rs a next (inr f) = inr (first_stands s rs a next f)
  first_stands (many r) rs a next f = first_stands r (many r ∷ rs) a next f

  -- what comes behind a place of the pattern stands in the pattern too, or comes behind the pattern
  pub stands_more : (r : Re A) (rs : List (Re A)) (a : A) (next : List (Re A)) (b : A) (last : List (Re A)) → Stands r rs a next → Starts next b last → Stands r rs b last ⊎ Starts rs b last
  stands_more empty rs a next b last f s = absurd f
  stands_more (letter c) rs a next b last f s = inr (subst (λ t. Starts t b last) f.1 s)
  stands_more nothing rs a next b last f s = absurd f
  stands_more (cat r t) rs a next b last (inl f) s =
      elim (stands_more r (t ∷ rs) a next b last f s) [
        | inl g ↦ inl (inl g)
        | inr (inl g) ↦ inl (inr (first_stands t rs b last g))
        | inr (inr g) ↦ inr g.1
      ]
  stands_more (cat r t) rs a next b last (inr f) s =
      elim (stands_more t rs a next b last f s) [ inl g ↦ inl (inr g) | inr g ↦ inr g ]
  stands_more (alt r t) rs a next b last (inl f) s =
      elim (stands_more r rs a next b last f s) [ inl g ↦ inl (inl g) | inr g ↦ inr g ]
  stands_more (alt r t) rs a next b last (inr f) s =
      elim (stands_more t rs a next b last f s) [ inl g ↦ inl (inr g) | inr g ↦ inr g ]
  stands_more (many r) rs a next b last f s =
      elim (stands_more r (many r ∷ rs) a next b last f s) [
        | inl g ↦ inl g
        | inr (inl g) ↦ inl (first_stands r (many r ∷ rs) b last g)
        | inr (inr g) ↦ inr g.1
      ]

  -- from one pattern, letters lead to places of it
  pub leads_stand : (r : Re A) (more : List A) (a b : A) (next last : List (Re A)) → Stands r [] a next → GoesBy next (more ++ b ∷ []) last → Stands r [] b last
  leads_stand r [] a b next last f l =
      elim (stands_more r [] a next b l.0 f l.1) [
        | inl g ↦ subst (λ t. Stands r [] b t) l.2 g
        | inr g ↦ absurd g
      ]
  leads_stand r (c ∷ more) a b next last f l =
      elim (stands_more r [] a next c l.0 f l.1) [
        | inl g ↦ leads_stand r more c b l.0 last g l.2
        | inr g ↦ absurd g
      ]

  pub start_stands : (r : Re A) (a : A) (next : List (Re A)) → Starts (r ∷ []) a next → Stands r [] a next
  start_stands r a next (inl f) = first_stands r [] a next f
  start_stands r a next (inr f) = absurd f.1

  pub lead_stands : (r : Re A) (more : List A) (b : A) (last : List (Re A)) → GoesBy (r ∷ []) (more ++ b ∷ []) last → Stands r [] b last
  lead_stands r [] b last l = subst (λ t. Stands r [] b t) l.2 (start_stands r b l.0 l.1)
  lead_stands r (c ∷ more) b last l = leads_stand r more c b l.0 last (start_stands r c l.0 l.1) l.2

-- ---- numbers

-- the place is of the rule, and its number is in the range
pub record Within (rule from many_of : ℕ) (a : NumberedClass) : Type 0 where
  pub of_rule : a.rule ≡ rule
  pub low : from ≤ a.number
  pub high : a.number < from + many_of

pub within : (rule from : ℕ) (r : Re (List ℕ)) (rs : List (Re NumberedClass)) (a : NumberedClass) (next : List (Re NumberedClass)) → Stands (with_places rule from r) rs a next → Within rule from (letters r) a
within rule from empty rs a next f = absurd f
within rule from (letter c) rs a next f =
    let e : a.number ≡ from = ap (λ t. t.number) f.0 in
    record { of_rule = ap (λ t. t.rule) f.0; low = omega arith; high = omega arith }
within rule from nothing rs a next f = absurd f
within rule from (cat r s) rs a next (inl f) =
    let w = within rule from r (with_places rule (from + letters r) s ∷ rs) a next f in
    record { of_rule = w.of_rule; low = w.low; high = omega (arith, w.high) }
within rule from (cat r s) rs a next (inr f) =
    let w = within rule (from + letters r) s rs a next f in
    record { of_rule = w.of_rule; low = omega (arith, w.low); high = omega (arith, w.high) }
within rule from (alt r s) rs a next (inl f) =
    let w = within rule from r rs a next f in
    record { of_rule = w.of_rule; low = w.low; high = omega (arith, w.high) }
within rule from (alt r s) rs a next (inr f) =
    let w = within rule (from + letters r) s rs a next f in
    record { of_rule = w.of_rule; low = omega (arith, w.low); high = omega (arith, w.high) }
within rule from (many r) rs a next f = within rule from r (many (with_places rule from r) ∷ rs) a next f

-- a number has one place, with the same behind it
pub one_place : (rule from : ℕ) (r : Re (List ℕ)) (rs : List (Re NumberedClass)) (a b : NumberedClass) (next last : List (Re NumberedClass)) → Stands (with_places rule from r) rs a next → Stands (with_places rule from r) rs b last → a.number ≡ b.number → (a ≡ b) × (next ≡ last)
one_place rule from empty rs a b next last f g e = absurd f
one_place rule from (letter c) rs a b next last f g e = (f.0 ∙ sym g.0, f.1 ∙ sym g.1)
one_place rule from nothing rs a b next last f g e = absurd f
one_place rule from (cat r s) rs a b next last (inl f) (inl g) e = one_place rule from r (with_places rule (from + letters r) s ∷ rs) a b next last f g e
one_place rule from (cat r s) rs a b next last (inl f) (inr g) e =
    let v = within rule from r (with_places rule (from + letters r) s ∷ rs) a next f in
    let w = within rule (from + letters r) s rs b last g in
    absurd (omega (arith, v.high, w.low))
one_place rule from (cat r s) rs a b next last (inr f) (inl g) e =
    let v = within rule from r (with_places rule (from + letters r) s ∷ rs) b last g in
    let w = within rule (from + letters r) s rs a next f in
    absurd (omega (arith, v.high, w.low))
one_place rule from (cat r s) rs a b next last (inr f) (inr g) e = one_place rule (from + letters r) s rs a b next last f g e
one_place rule from (alt r s) rs a b next last (inl f) (inl g) e = one_place rule from r rs a b next last f g e
one_place rule from (alt r s) rs a b next last (inl f) (inr g) e =
    let v = within rule from r rs a next f in
    let w = within rule (from + letters r) s rs b last g in
    absurd (omega (arith, v.high, w.low))
one_place rule from (alt r s) rs a b next last (inr f) (inl g) e =
    let v = within rule from r rs b last g in
    let w = within rule (from + letters r) s rs a next f in
    absurd (omega (arith, v.high, w.low))
one_place rule from (alt r s) rs a b next last (inr f) (inr g) e = one_place rule (from + letters r) s rs a b next last f g e
one_place rule from (many r) rs a b next last f g e = one_place rule from r (many (with_places rule from r) ∷ rs) a b next last f g e

-- the same of all patterns
pub any_low : (rule from : ℕ) (ps : List (Re (List ℕ))) (rs : List (Re NumberedClass)) (a : NumberedClass) (next : List (Re NumberedClass)) → Stands (any_of rule from ps) rs a next → from ≤ a.number
any_low rule from [] rs a next f = absurd f
any_low rule from (p ∷ ps) rs a next (inl f) = (within rule from p rs a next f).low
any_low rule from (p ∷ ps) rs a next (inr f) = omega (arith, any_low (suc rule) (from + letters p) ps rs a next f)

pub one_of_any : (rule from : ℕ) (ps : List (Re (List ℕ))) (rs : List (Re NumberedClass)) (a b : NumberedClass) (next last : List (Re NumberedClass)) → Stands (any_of rule from ps) rs a next → Stands (any_of rule from ps) rs b last → a.number ≡ b.number → (a ≡ b) × (next ≡ last)
one_of_any rule from [] rs a b next last f g e = absurd f
one_of_any rule from (p ∷ ps) rs a b next last (inl f) (inl g) e = one_place rule from p rs a b next last f g e
one_of_any rule from (p ∷ ps) rs a b next last (inl f) (inr g) e =
    let v = within rule from p rs a next f in
    absurd (omega (arith, v.high, any_low (suc rule) (from + letters p) ps rs b last g))
one_of_any rule from (p ∷ ps) rs a b next last (inr f) (inl g) e =
    let v = within rule from p rs b last g in
    absurd (omega (arith, v.high, any_low (suc rule) (from + letters p) ps rs a next f))
one_of_any rule from (p ∷ ps) rs a b next last (inr f) (inr g) e = one_of_any (suc rule) (from + letters p) ps rs a b next last f g e
