-- The sets that walks give are the sets that texts reach.
use Rattle.std.proofs.Common.{◌≡◌, ◌≢◌, ℕ, zero, suc, ◌+◌, ◌<◌, ◌≤◌, Bool, true, false, IsTrue, List, [], ◌∷◌, ◌++◌, inl, inr, Some, refl, sym, ap, ◌∙◌, subst, arith, length, take, Contains, length-append}
use Rattle.std.specs.Prelude.{◌&&◌, ◌||◌, slice_get}
use Rattle.std.proofs.lemmas.Bool.{false≢true, and_parts, and_from, or_cases}
use Rattle.std.proofs.lemmas.Option.{slice_get_within}
use Rattle.cs_scanner.specs.Automaton.Re.{Re, empty, letter, nothing, cat, alt, many}
use Rattle.cs_scanner.specs.Automaton.Bits.{bit}
use Rattle.cs_scanner.specs.Automaton.Exits.{exit, final, nexts}
use Rattle.cs_scanner.specs.Automaton.Linear.{nullable, all_nullable, Starts, Stands}
use Rattle.cs_scanner.specs.Automaton.Meaning.{Has, classes, all_classes}
use Rattle.cs_scanner.specs.Automaton.Places.{NumberedClass, letters, with_places, any_of, whole, HasByte, all_letters}
use Rattle.cs_scanner.specs.Automaton.Reached.{Reaches, begins, goes_on}
use Rattle.cs_scanner.specs.Automaton.Rules.{SpellsRule, AreSpelled}
use Rattle.cs_scanner.specs.Automaton.States.{Follows, AreNext, IsReached, IsRow, EndsAt, EndsBelow, AreEnding}
use Rattle.cs_scanner.proofs.OnAutomaton.Exits.{final_stands, first_next, behind_next, ends_final, next_comes, Comes, entering, behind}
use Rattle.cs_scanner.proofs.OnAutomaton.Listing.{lists_same}
use Rattle.cs_scanner.proofs.OnAutomaton.Linear.{nullable_spells, spells_nullable}
use Rattle.cs_scanner.proofs.OnAutomaton.Places.{within, one_of_any, start_stands, stands_more}
use Rattle.cs_scanner.proofs.OnAutomaton.Reached.{reaches_stands}
use Rattle.cs_scanner.proofs.OnAutomaton.Rules.{rule_matches, reached_rule}
use Rattle.cs_scanner.proofs.OnAutomaton.Walking.{no_final}

-- the same last element
pub snoc_same : {X : Type 0} (xs ys : List X) (a b : X) → xs ++ a ∷ [] ≡ ys ++ b ∷ [] → (xs ≡ ys) × (a ≡ b)
snoc_same [] [] a b e = (refl, cc)
snoc_same [] (y ∷ []) a b e = absurd cc
snoc_same [] (y ∷ z ∷ ys) a b e = absurd cc
snoc_same (x ∷ []) [] a b e = absurd cc
snoc_same (x ∷ z ∷ xs) [] a b e = absurd cc
snoc_same (x ∷ xs) (y ∷ ys) a b e =
    let head : x ≡ y = cc in
    let tail : xs ++ a ∷ [] ≡ ys ++ b ∷ [] = cc in
    let s = snoc_same xs ys a b tail in
    (let t = s.0 in cc, s.1)

-- ---- the class of a place

pub get_left : {X : Type 0} (xs ys : List X) (k : ℕ) (x : X) → slice_get xs k ≡ Some x → slice_get (xs ++ ys) k ≡ Some x
get_left [] ys k x e = absurd cc
get_left (y ∷ xs) ys zero x e = e
get_left (y ∷ xs) ys (suc k) x e = get_left xs ys k x e

pub get_right : {X : Type 0} (xs ys : List X) (k n : ℕ) (x : X) → n ≡ length xs + k → slice_get ys k ≡ Some x → slice_get (xs ++ ys) n ≡ Some x
get_right [] ys k n x is e = let same : k ≡ n = omega (arith, is) in subst (λ m. slice_get ys m ≡ Some x) same e
get_right (y ∷ xs) ys k zero x is e = absurd (omega (arith, is))
get_right (y ∷ xs) ys k (suc n) x is e = get_right xs ys k n x (omega (arith, is)) e

length-classes : {A : Type 0} (r : Re A) → length (classes r) ≡ letters r
length-classes empty = refl
length-classes (letter a) = refl
length-classes nothing = refl
length-classes (cat r s) = omega (arith, length-append (classes r) (classes s), length-classes r, length-classes s)
length-classes (alt r s) = omega (arith, length-append (classes r) (classes s), length-classes r, length-classes s)
length-classes (many r) = length-classes r

pub length-all_classes : {A : Type 0} (rs : List (Re A)) → length (all_classes rs) ≡ all_letters rs
length-all_classes [] = refl
length-all_classes (r ∷ rs) = omega (arith, length-append (classes r) (all_classes rs), length-classes r, length-all_classes rs)

-- the class at the place's number, counted from there on
pub record ClassAt (from : ℕ) (all : List (List ℕ)) (a : NumberedClass) : Type 0 where
  pub index : ℕ
  pub number : a.number ≡ from + index
  pub at : slice_get all index ≡ Some a.class

class_at : (rule from : ℕ) (r : Re (List ℕ)) (rs : List (Re NumberedClass)) (a : NumberedClass) (next : List (Re NumberedClass)) → Stands (with_places rule from r) rs a next → ClassAt from (classes r) a
class_at rule from empty rs a next f = absurd f
class_at rule from (letter c) rs a next f =
    let n : a.number ≡ from = ap (λ t. t.number) f.0 in
    record { index = 0; number = omega (arith, n); at = ap (λ t. Some t.class) (sym f.0) }
class_at rule from nothing rs a next f = absurd f
class_at rule from (cat r s) rs a next (inl f) =
    let c = class_at rule from r (with_places rule (from + letters r) s ∷ rs) a next f in
    record { index = c.index; number = c.number; at = get_left (classes r) (classes s) c.index a.class c.at }
class_at rule from (cat r s) rs a next (inr f) =
    let c = class_at rule (from + letters r) s rs a next f in
    record { index = letters r + c.index; number = omega (arith, c.number); at = get_right (classes r) (classes s) c.index (letters r + c.index) a.class (omega (arith, length-classes r)) c.at }
class_at rule from (alt r s) rs a next (inl f) =
    let c = class_at rule from r rs a next f in
    record { index = c.index; number = c.number; at = get_left (classes r) (classes s) c.index a.class c.at }
class_at rule from (alt r s) rs a next (inr f) =
    let c = class_at rule (from + letters r) s rs a next f in
    record { index = letters r + c.index; number = omega (arith, c.number); at = get_right (classes r) (classes s) c.index (letters r + c.index) a.class (omega (arith, length-classes r)) c.at }
class_at rule from (many r) rs a next f = class_at rule from r (many (with_places rule from r) ∷ rs) a next f

any_class : (rule from : ℕ) (ps : List (Re (List ℕ))) (rs : List (Re NumberedClass)) (a : NumberedClass) (next : List (Re NumberedClass)) → Stands (any_of rule from ps) rs a next → ClassAt from (all_classes ps) a
any_class rule from [] rs a next f = absurd f
any_class rule from (p ∷ ps) rs a next (inl f) =
    let c = class_at rule from p rs a next f in
    record { index = c.index; number = c.number; at = get_left (classes p) (all_classes ps) c.index a.class c.at }
any_class rule from (p ∷ ps) rs a next (inr f) =
    let c = any_class (suc rule) (from + letters p) ps rs a next f in
    record { index = letters p + c.index; number = omega (arith, c.number); at = get_right (classes p) (all_classes ps) c.index (letters p + c.index) a.class (omega (arith, length-classes p)) c.at }

-- ---- the rule of a place

any_rule : (rule from : ℕ) (ps : List (Re (List ℕ))) (rs : List (Re NumberedClass)) (a : NumberedClass) (next : List (Re NumberedClass)) → Stands (any_of rule from ps) rs a next → rule ≤ a.rule
any_rule rule from [] rs a next f = absurd f
any_rule rule from (p ∷ ps) rs a next (inl f) = omega (arith, (within rule from p rs a next f).of_rule)
any_rule rule from (p ∷ ps) rs a next (inr f) = omega (arith, any_rule (suc rule) (from + letters p) ps rs a next f)

stands_at : (rule from : ℕ) (ps : List (Re (List ℕ))) (j number base : ℕ) (r : Re (List ℕ)) (a : NumberedClass) (next : List (Re NumberedClass)) → slice_get ps j ≡ Some r → number ≡ rule + j → base ≡ from + all_letters (take j ps) → Stands (with_places number base r) [] a next → Stands (any_of rule from ps) [] a next
stands_at rule from [] j number base r a next e n b f = absurd cc
stands_at rule from (p ∷ ps) zero number base r a next e n b f =
    let same : r ≡ p = cc in
    let m : number ≡ rule = omega (arith, n) in
    let c : base ≡ from = omega (arith, b) in
    inl (subst (λ t. Stands (with_places rule from t) [] a next) same (subst (λ t. Stands (with_places rule t r) [] a next) c (subst (λ t. Stands (with_places t base r) [] a next) m f)))
stands_at rule from (p ∷ ps) (suc j) number base r a next e n b f =
    inr (stands_at (suc rule) (from + letters p) ps j number base r a next e (omega (arith, n)) (omega (arith, b)) f)

at_stands : (rule from : ℕ) (ps : List (Re (List ℕ))) (j number base : ℕ) (r : Re (List ℕ)) (a : NumberedClass) (next : List (Re NumberedClass)) → slice_get ps j ≡ Some r → number ≡ rule + j → base ≡ from + all_letters (take j ps) → a.rule ≡ number → Stands (any_of rule from ps) [] a next → Stands (with_places number base r) [] a next
at_stands rule from [] j number base r a next e n b is f = absurd f
at_stands rule from (p ∷ ps) zero number base r a next e n b is (inl f) =
    let same : p ≡ r = cc in
    let m : rule ≡ number = omega (arith, n) in
    let c : from ≡ base = omega (arith, b) in
    subst (λ t. Stands (with_places number base t) [] a next) same (subst (λ t. Stands (with_places number t p) [] a next) c (subst (λ t. Stands (with_places t from p) [] a next) m f))
at_stands rule from (p ∷ ps) (suc j) number base r a next e n b is (inl f) = absurd (omega (arith, (within rule from p [] a next f).of_rule, n, is))
at_stands rule from (p ∷ ps) zero number base r a next e n b is (inr f) = absurd (omega (arith, any_rule (suc rule) (from + letters p) ps [] a next f, n, is))
at_stands rule from (p ∷ ps) (suc j) number base r a next e n b is (inr f) =
    at_stands (suc rule) (from + letters p) ps j number base r a next e (omega (arith, n)) (omega (arith, b)) is f

numbered_nullable : (rule from : ℕ) (r : Re (List ℕ)) → nullable (with_places rule from r) ≡ nullable r
numbered_nullable rule from empty = refl
numbered_nullable rule from (letter c) = refl
numbered_nullable rule from nothing = refl
numbered_nullable rule from (cat r s) = let p = numbered_nullable rule from r in let q = numbered_nullable rule (from + letters r) s in cc
numbered_nullable rule from (alt r s) = let p = numbered_nullable rule from r in let q = numbered_nullable rule (from + letters r) s in cc
numbered_nullable rule from (many r) = refl

module _ (rs : List (Re (List ℕ))) where
  pub follows_stands : (x : List ℕ) (b : NumberedClass) (last : List (Re NumberedClass)) → Follows rs x b last → Stands (whole rs) [] b last
  follows_stands x b last (inl f) = start_stands (whole rs) b last f.1
  follows_stands x b last (inr f) = elim (stands_more (whole rs) [] f.0 f.1 b last (reaches_stands rs f.2) f.3) [ inl g ↦ g | inr g ↦ absurd g ]

  pub place_class : (a : NumberedClass) (next : List (Re NumberedClass)) → Stands (whole rs) [] a next → slice_get (all_classes rs) a.number ≡ Some a.class
  place_class a next s =
      let c = any_class 1 0 rs [] a next s in
      let same : c.index ≡ a.number = omega (arith, c.number) in
      subst (λ n. slice_get (all_classes rs) n ≡ Some a.class) same c.at

  pub place_below : (a : NumberedClass) (next : List (Re NumberedClass)) → Stands (whole rs) [] a next → a.number < all_letters rs
  place_below a next s = omega (arith, slice_get_within (all_classes rs) a.number a.class (place_class a next s), length-all_classes rs)

  -- ---- one byte more

  follows_reaches : (x : List ℕ) (b : ℕ) (a : NumberedClass) (last : List (Re NumberedClass)) → Follows rs x a last → HasByte a b → Reaches rs (x ++ b ∷ []) a last
  follows_reaches x b a last (inl f) h = begins b (x ++ b ∷ []) a last f.1 h (ap (λ t. t ++ b ∷ []) f.0)
  follows_reaches x b a last (inr f) h = goes_on b (x ++ b ∷ []) x f.0 a f.1 last f.2 f.3 h refl

  reaches_follows : (x : List ℕ) (b : ℕ) {z : List ℕ} {a : NumberedClass} {last : List (Re NumberedClass)} → z ≡ x ++ b ∷ [] → Reaches rs z a last → Follows rs x a last × HasByte a b
  reaches_follows x b {z} {a} {last} is (begins c _ _ _ s h e) =
      let same = snoc_same x [] b c (sym is ∙ e) in
      (inl (same.0, s), subst (λ t. HasByte a t) (sym same.1) h)
  reaches_follows x b {z} {a} {last} is (goes_on c _ y k _ mid _ r s h e) =
      let same = snoc_same x y b c (sym is ∙ e) in
      (inr (k, mid, subst (λ t. Reaches rs t k mid) (sym same.0) r, s), subst (λ t. HasByte a t) (sym same.1) h)

  -- the numbers that may come next and whose class has the byte
  pub on_reaches : (x : List ℕ) (byte : ℕ) (next row words : List ℕ) → AreNext rs x (bit next) → IsRow (all_classes rs) byte row → ((n : ℕ) → bit words n ≡ (bit next n && bit row n)) → IsReached rs (x ++ byte ∷ []) (bit words)
  on_reaches x byte next row words follow is_row both =
      record {
        reached = λ p h.
            let two = and_parts (bit next p) (bit row p) (sym (both p) ∙ h) in
            let f = follow.follow p two.0 in
            let c = is_row.has p two.1 in
            let place = place_class f.0 f.1 (follows_stands x f.0 f.1 f.2) in
            let there = subst (λ n. slice_get (all_classes rs) n ≡ Some f.0.class) f.3 place in
            let at = c.at in
            let same : c.class ≡ f.0.class = cc in
            record { place = f.0; next = f.1; reaches = follows_reaches x byte f.0 f.1 f.2 (subst (λ t. Contains t byte) same c.has); number = f.3 };
        all = λ p h.
            let f = reaches_follows x byte refl h.reaches in
            let place = place_class h.place h.next (follows_stands x h.place h.next f.0) in
            let at = subst (λ n. slice_get (all_classes rs) n ≡ Some h.place.class) h.number place in
            let first = subst (λ n. bit next n ≡ true) h.number (follow.all h.place h.next f.0) in
            let second = is_row.all p (record { class = h.place.class; at = at; has = f.1 }) in
            both p ∙ and_from (bit next p) (bit row p) first second;
      }

  -- ---- what may come next

  reaches_some : {x : List ℕ} {a : NumberedClass} {next : List (Re NumberedClass)} → x ≡ [] → Reaches rs x a next → ⊥
  reaches_some e (begins c _ _ _ s h is) = absurd cc
  reaches_some e (goes_on c _ [] k _ mid _ r s h is) = absurd cc
  reaches_some e (goes_on c _ (d ∷ y) k _ mid _ r s h is) = absurd cc

  abbrev NextPlace : List ℕ → ℕ → Type 0
  NextPlace x n = (b : NumberedClass) × (last : List (Re NumberedClass)) × Follows rs x b last × (b.number ≡ n)

  pub start_next : (S : ℕ → Bool) (N : ℕ → Bool) (zero_words : (n : ℕ) → S n ≡ false) → ((n : ℕ) → N n ≡ true → Contains (nexts S (whole rs) true) n) → ((n : ℕ) → n < all_letters rs → Contains (nexts S (whole rs) true) n → N n ≡ true) → AreNext rs [] N
  start_next S N none forth back = record { follow = λ n h. let c = next_comes S (whole rs) [] true n (forth n h) in came c.place c.last n c.number c.comes; all = came_back }
    where
      came : (b : NumberedClass) (last : List (Re NumberedClass)) (n : ℕ) → b.number ≡ n → Comes S (whole rs) [] true b last → NextPlace [] n
      came b last n e (entering i f) = (b, last, inl (refl, inl f), e)
      came b last n e (behind k mid f m s) = absurd (false≢true (sym (none k.number) ∙ m))

      came_back : (b : NumberedClass) (last : List (Re NumberedClass)) → Follows rs [] b last → N b.number ≡ true
      came_back b last (inl (e, inl f)) = back b.number (place_below b last (start_stands (whole rs) b last (inl f))) (first_next S (whole rs) [] true b last refl f)
      came_back b last (inl (e, inr f)) = absurd f.1
      came_back b last (inr f) = absurd (reaches_some refl f.2)

  pub state_next : (x : List ℕ) (S : ℕ → Bool) (N : ℕ → Bool) → x ≢ [] → IsReached rs x S → ((n : ℕ) → N n ≡ true → Contains (nexts S (whole rs) false) n) → ((n : ℕ) → n < all_letters rs → Contains (nexts S (whole rs) false) n → N n ≡ true) → AreNext rs x N
  state_next x S N ne is forth back = record { follow = λ n h. let c = next_comes S (whole rs) [] false n (forth n h) in came c.place c.last n c.number c.comes; all = came_back }
    where
      came : (b : NumberedClass) (last : List (Re NumberedClass)) (n : ℕ) → b.number ≡ n → Comes S (whole rs) [] false b last → NextPlace x n
      came b last n e (entering i f) = absurd (false≢true i)
      came b last n e (behind k mid f m s) =
          let r = is.reached k.number m in
          let same = one_of_any 1 0 rs [] r.place k r.next mid (reaches_stands rs r.reaches) f r.number in
          (b, last, inr (r.place, r.next, r.reaches, subst (λ t. Starts t b last) (sym same.1) s), e)

      came_back : (b : NumberedClass) (last : List (Re NumberedClass)) → Follows rs x b last → N b.number ≡ true
      came_back b last (inl f) = absurd (ne f.0)
      came_back b last (inr f) =
          let stands = reaches_stands rs f.2 in
          let marked = is.all f.0.number (record { place = f.0; next = f.1; reaches = f.2; number = refl }) in
          let below = place_below b last (follows_stands x b last (inr f)) in
          elim (behind_next S (whole rs) [] false f.0 f.1 b last stands marked f.3) [
            | inl c ↦ back b.number below c
            | inr g ↦ absurd g.1
          ]

  -- ---- the rules that match

  pub ends_rule : (x : List ℕ) (S : ℕ → Bool) (index : ℕ) → x ≢ [] → IsReached rs x S → EndsAt rs S false index → SpellsRule rs (suc index) x
  ends_rule x S index ne is e =
      let base = all_letters (take index rs) in
      let h = e.ends (suc index) base refl refl in
      let f = final_stands S (with_places (suc index) base e.pattern) [] h in
      let w = within (suc index) base e.pattern [] f.place f.mid f.stands in
      let stands = stands_at 1 0 rs index (suc index) base e.pattern f.place f.mid e.at (omega arith) (omega arith) f.stands in
      let r = is.reached f.place.number f.marked in
      let same = one_of_any 1 0 rs [] r.place f.place r.next f.mid (reaches_stands rs r.reaches) stands r.number in
      reached_rule rs (suc index) x r.place r.next r.reaches (ap (λ t. t.rule) same.0 ∙ w.of_rule) (subst (λ t. IsTrue (all_nullable t)) (sym same.1) (f.leaves.ends refl))

  abbrev Ending : (ℕ → Bool) → Bool → ℕ → Type 0
  Ending S entered rule = EndsBelow rs S entered (length rs) rule

  ending : (S : ℕ → Bool) (entered : Bool) (x : List ℕ) (rule : ℕ) (m : SpellsRule rs rule x) → ((number from : ℕ) → number ≡ suc m.index → from ≡ all_letters (take m.index rs) → exit S (with_places number from m.pattern) entered ≡ true) → Ending S entered rule
  ending S entered x rule m ends = (m.index, m.number, slice_get_within rs m.index m.pattern m.at, record { pattern = m.pattern; at = m.at; ends = ends })

  -- where the rules that end are those that spell the text
  all_spelled : (S : ℕ → Bool) (entered : Bool) (x rules : List ℕ) → ((index : ℕ) → EndsAt rs S entered index → SpellsRule rs (suc index) x) → ((rule : ℕ) → SpellsRule rs rule x → Ending S entered rule) → AreEnding rs S entered (length rs) rules → AreSpelled rs x rules
  all_spelled S entered x rules spells ends are =
      lists_same (Ending S entered) (λ rule. SpellsRule rs rule x) rules (λ rule e. subst (λ n. SpellsRule rs n x) (sym e.1) (spells e.0 e.3)) ends are

  rule_ends : (x : List ℕ) (S : ℕ → Bool) (rule : ℕ) → x ≢ [] → IsReached rs x S → SpellsRule rs rule x → Ending S false rule
  rule_ends x S rule ne is m =
      let r = rule_matches rs rule x ne m in
      let stands = reaches_stands rs r.2 in
      let marked = is.all r.0.number (record { place = r.0; next = r.1; reaches = r.2; number = refl }) in
      ending S false x rule m (λ number from n b. (ends_final S (with_places number from m.pattern) [] r.0 r.1 (at_stands 1 0 rs m.index number from m.pattern r.0 r.1 m.at (omega (arith, n)) (omega (arith, b)) (omega (arith, r.3, m.number, n)) stands) marked r.4).0)

  pub ending_spelled : (x : List ℕ) (S : ℕ → Bool) (rules : List ℕ) → x ≢ [] → IsReached rs x S → AreEnding rs S false (length rs) rules → AreSpelled rs x rules
  ending_spelled x S rules ne is = all_spelled S false x rules (λ index e. ends_rule x S index ne is e) (λ rule m. rule_ends x S rule ne is m)

  -- at the start

  start_ends : (S : ℕ → Bool) (index : ℕ) → ((n : ℕ) → S n ≡ false) → EndsAt rs S true index → SpellsRule rs (suc index) []
  start_ends S index none e =
      let base = all_letters (take index rs) in
      let h = e.ends (suc index) base refl refl in
      let null : nullable (with_places (suc index) base e.pattern) ≡ true =
      elim (or_cases (nullable (with_places (suc index) base e.pattern)) (final S (with_places (suc index) base e.pattern)) h) [
        | inl n ↦ n
        | inr f ↦ absurd (false≢true (sym (no_final S (suc index) base e.pattern (λ n a b. none n)) ∙ f))
      ]
      in
      record { index = index; pattern = e.pattern; number = refl; at = e.at; spelled = nullable_spells Has e.pattern (sym (numbered_nullable (suc index) base e.pattern) ∙ null) }

  start_rule : (S : ℕ → Bool) (rule : ℕ) → SpellsRule rs rule [] → Ending S true rule
  start_rule S rule m = ending S true [] rule m (λ number from n b. ap (λ t. t || final S (with_places number from m.pattern)) (numbered_nullable number from m.pattern ∙ spells_nullable Has m.pattern [] refl m.spelled))

  pub start_spelled : (S : ℕ → Bool) (rules : List ℕ) → ((n : ℕ) → S n ≡ false) → AreEnding rs S true (length rs) rules → AreSpelled rs [] rules
  start_spelled S rules none = all_spelled S true [] rules (λ index e. start_ends S index none e) (λ rule m. start_rule S rule m)
