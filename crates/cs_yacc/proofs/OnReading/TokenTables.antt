-- Tables of numbers by spelling.
use Rattle.std.proofs.Common.{◌≡◌, ◌≢◌, ℕ, ◌+◌, ◌-◌, ◌<◌, ◌≤◌, Bool, true, false, cond, eqb, List, [], ◌∷◌, length, refl, sym, ap, ◌∙◌, arith, inl, inr}
use Rattle.std.specs.Prelude.{Option, Some, None, IfSome, IfNone, slice_get}
use Rattle.std.specs.Map.{lookup}
use Rattle.std.proofs.lemmas.Bool.{false≢true, cases_lt, eqb-true}
use Rattle.std.proofs.lemmas.Option.{slice_get_past}
use Rattle.std.specs.Global.{Vec}
use Rattle.std.specs.Str.{bytes_eq}
use Rattle.std.proofs.lemmas.Slice.Eq.{bytes_eq-Decides}
use Rattle.indexmap.specs.IndexMap.{insert_entry}
use Rattle.cs_yacc.specs.declared.reading.name.TokenName.{TokenName}
use Rattle.cs_yacc.specs.Reading.Meaning.{same_spelling}
use Rattle.cs_yacc.specs.Reading.TokenNumbers.{number_at_word, number_at_byte, Finds}
use Rattle.cs_yacc.proofs.OnReading.Gathering.{same_is, same_self}

-- ---- a look-up after a key is put in

cond_same : {Y : Type 0} (b : Bool) (x y z : Y) → cond b x z ≡ cond b x (cond b y z)
cond_same true x y z = refl
cond_same false x y z = refl

cond_swap : {Y : Type 0} (b c : Bool) (x y z : Y) → (b ≡ true → c ≡ false) → cond c y (cond b x z) ≡ cond b x (cond c y z)
cond_swap true c x y z h = rw (h refl) refl
cond_swap false c x y z h = refl

module _ {K X : Type 0} (eq : K → K → Bool) (test : K → Bool) (k : K) (v : X) (same : (e : K) → eq k e ≡ true → test e ≡ test k) (only : (e : K) → test k ≡ true → test e ≡ eq k e) where
  put_step : (e : K × X) (b : Bool) (rest old : Option X) (es done : List (K × X)) → eq k e.0 ≡ b → lookup test es ≡ old → lookup test done ≡ cond (test k) (Some v) old
      → lookup test (cond b ((e.0, v) ∷ es) (e ∷ done)) ≡ cond (test k) (Some v) (cond (test e.0) (Some e.1) old)
  put_step e true rest old es done q f g = rw (same e.0 q, f) (cond_same (test k) (Some v) (Some e.1) old)
  put_step e false rest old es done q f g = rw g (cond_swap (test k) (test e.0) (Some v) (Some e.1) old (λ t. only e.0 t ∙ q))

  pub lookup-insert_entry : (es : List (K × X)) → lookup test (insert_entry eq es k v) ≡ cond (test k) (Some v) (lookup test es)
  lookup-insert_entry [] = refl
  lookup-insert_entry (e ∷ es) = put_step e (eq k e.0) None (lookup test es) es (insert_entry eq es k v) refl refl (lookup-insert_entry es)

pub at_byte_put : (es : List (ℕ × ℕ)) (byte n b : ℕ) → number_at_byte (insert_entry eqb es byte n) b ≡ cond (eqb b byte) (Some n) (number_at_byte es b)
at_byte_put es byte n b = lookup-insert_entry eqb (eqb b) byte n same only es
  where
    same : (e : ℕ) → eqb byte e ≡ true → eqb b e ≡ eqb b byte
    same e h = let f : byte ≡ e = eqb-true byte e h in rw f refl

    only : (e : ℕ) → eqb b byte ≡ true → eqb b e ≡ eqb byte e
    only e h = let f : b ≡ byte = eqb-true b byte h in rw f refl

pub at_word_put : (es : List (Vec ℕ × ℕ)) (v : Vec ℕ) (n : ℕ) (w : List ℕ) → number_at_word (insert_entry (λ x y. bytes_eq x.items y.items) es v n) w ≡ cond (bytes_eq w v.items) (Some n) (number_at_word es w)
at_word_put es v n w = lookup-insert_entry (λ x y. bytes_eq x.items y.items) (λ k. bytes_eq w k.items) v n same only es
  where
    same : (e : Vec ℕ) → bytes_eq v.items e.items ≡ true → bytes_eq w e.items ≡ bytes_eq w v.items
    same e h = let f : v.items ≡ e.items = (bytes_eq-Decides v.items e.items).0 h in rw f refl

    only : (e : Vec ℕ) → bytes_eq w v.items ≡ true → bytes_eq w e.items ≡ bytes_eq v.items e.items
    only e h = let f : w ≡ v.items = (bytes_eq-Decides w v.items).0 h in rw f refl

-- ---- a table after one name more

module _ {A : Type 0} (spelled : A → TokenName) (names : List TokenName) where
  module _ (old new : A → Option ℕ) (k : ℕ) (name : TokenName) (at : slice_get names k ≡ Some name) (put : (a : A) → new a ≡ cond (same_spelling (spelled a) name) (Some (k + 1)) (old a)) (before : Finds spelled old k names) where
    number_step : (a : A) (t : ℕ) (b : Bool) → same_spelling (spelled a) name ≡ b → cond b (Some (k + 1)) (old a) ≡ Some t → (0 < t) × (slice_get names (t - 1) ≡ Some (spelled a))
    number_step a t true same e =
        let is : k + 1 ≡ t = cc in
        let place : t - 1 ≡ k = omega arith in
        (omega arith, rw (place, at) (ap Some (sym (same_is (spelled a) name same))))
    number_step a t false same e = before.number a t e

    none_here : (a : A) → same_spelling (spelled a) name ≡ false → slice_get names k ≢ Some (spelled a)
    none_here a differs e =
        let is : name ≡ spelled a = cc in
        let self : same_spelling (spelled a) name ≡ true = rw is (same_self (spelled a)) in
        false≢true (sym differs ∙ self)

    none_at : (a : A) (j : ℕ) → same_spelling (spelled a) name ≡ false → old a ≡ None → j < k + 1 → slice_get names j ≢ Some (spelled a)
    none_at a j differs e lt = elim (cases_lt j k) [
      | inl below ↦ before.none a e j below
      | inr above ↦ let is : j ≡ k = omega arith in rw is (none_here a differs)
    ]

    none_step : (a : A) (j : ℕ) (b : Bool) → same_spelling (spelled a) name ≡ b → cond b (Some (k + 1)) (old a) ≡ None → j < k + 1 → slice_get names j ≢ Some (spelled a)
    none_step a j true same e lt = absurd (let f : Some (k + 1) ≡ None = e in cc)
    none_step a j false same e lt = none_at a j same e lt

    pub finds_more : Finds spelled new (k + 1) names
    finds_more = record {
      number = λ a t e. number_step a t (same_spelling (spelled a) name) refl (sym (put a) ∙ e);
      none = λ a e j lt. none_step a j (same_spelling (spelled a) name) refl (sym (put a) ∙ e) lt;
    }

-- ---- what is found in a table of all names

module _ {A : Type 0} (spelled : A → TokenName) (names : List TokenName) (found : A → Option ℕ) (all : Finds spelled found (length names) names) (a : A) where
  pub found_is : (r : Option ℕ) → r ≡ found a → IfSome r (λ t. (0 < t) × (slice_get names (t - 1) ≡ Some (spelled a)))
  found_is None e = tt
  found_is (Some t) e = all.number a t (sym e)

  past : (k : ℕ) → length names ≤ k → slice_get names k ≢ Some (spelled a)
  past k le e = let none : slice_get names k ≡ None = slice_get_past names k le in absurd (let f : None ≡ Some (spelled a) = sym none ∙ e in cc)

  pub none_is : (r : Option ℕ) → r ≡ found a → IfNone r ((k : ℕ) → slice_get names k ≢ Some (spelled a))
  none_is (Some t) e = tt
  none_is None e = λ k. elim (cases_lt k (length names)) [ inl lt ↦ all.none a (sym e) k lt | inr le ↦ past k le ]
