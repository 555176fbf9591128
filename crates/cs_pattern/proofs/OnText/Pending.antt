-- Places that wait, and what operations add to them.
use Rattle.std.proofs.Common.{◌≡◌, ◌⊎◌, ℕ, zero, suc, ◌+◌, ◌<◌, ◌≤◌, Bool, true, false, List, [], ◌∷◌, ◌++◌, length, take, drop, get_or, refl, sym, ap, ◌∙◌, subst, inl, inr, arith}
use Rattle.std.specs.Prelude.{All, Contains, if◌then◌else◌, max, nat_eq, nat_lt}
use Rattle.std.specs.BTreeSet.{insert_key}
use Rattle.std.specs.BTreeMap.Range.{IsLtBy}
use Rattle.std.specs.Ordering.{nat_cmp, match_ordering}
use Rattle.std.specs.declared.cmp.Ordering.{Ordering}
use Rattle.std.specs.declared.cmp.Ordering.TheVariants.{Less, Equal, Greater}
use Rattle.std.proofs.lemmas.Bool.{lt-ltb, ltb-true}
use Rattle.std.proofs.lemmas.List.{take_more, map_push, take-append-drop}
use Rattle.std.proofs.lemmas.Map.Lookups.{exact_unsigned}
use Rattle.std.proofs.Math.Seq.{drop-cons}
use Rattle.std.specs.Global.{Vec}
use Rattle.cs_pattern.specs.declared.operations.operations.Op as code
use Rattle.cs_pattern.specs.Text.Needed.{Substitutes, IsOneOf, ArePlaces, place_of, add_place, add_op, add_used, ops_at, Needs, directly, behind, AreInOrder, AreNeeded}
use Rattle.cs_pattern.specs.Operations.Operations.{Op, op_of, ops_of, class, quoted, substitute, repeat, group, join, either}

-- ---- lists of indexes

pub one_left : (xs ys : List ℕ) (i : ℕ) → IsOneOf xs i → IsOneOf (xs ++ ys) i
one_left [] ys i h = absurd h
one_left (x ∷ xs) ys i (inl e) = inl e
one_left (x ∷ xs) ys i (inr h) = inr (one_left xs ys i h)

pub one_last : (xs : List ℕ) (x : ℕ) → IsOneOf (xs ++ x ∷ []) x
one_last [] x = inl refl
one_last (y ∷ xs) x = inr (one_last xs x)

pub one_cases : (xs : List ℕ) (x i : ℕ) → IsOneOf (xs ++ x ∷ []) i → IsOneOf xs i ⊎ (x ≡ i)
one_cases [] x i (inl e) = inr e
one_cases [] x i (inr h) = absurd h
one_cases (y ∷ xs) x i (inl e) = inl (inl e)
one_cases (y ∷ xs) x i (inr h) = elim (one_cases xs x i h) [ inl k ↦ inl (inr k) | inr e ↦ inr e ]

pub none_there : (xs : List ℕ) → (0 < length xs → ⊥) → xs ≡ []
none_there [] h = refl
none_there (x ∷ xs) h = absurd (h (omega arith))

-- ---- a set of numbers

by_order : (r : Ordering) (k x : ℕ) (a b c : List ℕ) (P : List ℕ → Type 0) → P a → (nat_cmp k x ≡ Equal → P b) → P c → nat_cmp k x ≡ r → P (match_ordering r a b c)
by_order Less k x a b c P p q s e = p
by_order Equal k x a b c P p q s e = q e
by_order Greater k x a b c P p q s e = s

pub insert_has : (ks : List ℕ) (k : ℕ) → IsOneOf (insert_key nat_cmp ks k) k
insert_has [] k = inl refl
insert_has (x ∷ xs) k = by_order (nat_cmp k x) k x (k ∷ x ∷ xs) (x ∷ xs) (x ∷ insert_key nat_cmp xs k) (λ ys. IsOneOf ys k) (inl refl) (λ e. inl (sym (exact_unsigned k x e))) (inr (insert_has xs k)) refl

pub insert_keeps : (ks : List ℕ) (k p : ℕ) → IsOneOf ks p → IsOneOf (insert_key nat_cmp ks k) p
insert_keeps [] k p h = absurd h
insert_keeps (x ∷ xs) k p h = by_order (nat_cmp k x) k x (k ∷ x ∷ xs) (x ∷ xs) (x ∷ insert_key nat_cmp xs k) (λ ys. IsOneOf ys p) (inr h) (λ e. h) (elim h [ inl e ↦ inl e | inr m ↦ inr (insert_keeps xs k p m) ]) refl

pub insert_only : (ks : List ℕ) (k p : ℕ) → IsOneOf (insert_key nat_cmp ks k) p → IsOneOf ks p ⊎ (k ≡ p)
insert_only [] k p (inl e) = inr e
insert_only [] k p (inr h) = absurd h
insert_only (x ∷ xs) k p h = by_order (nat_cmp k x) k x (k ∷ x ∷ xs) (x ∷ xs) (x ∷ insert_key nat_cmp xs k) (λ ys. IsOneOf ys p → IsOneOf (x ∷ xs) p ⊎ (k ≡ p)) first (λ e g. inl g) (later (insert_only xs k p)) refl h
  where
    first : IsOneOf (k ∷ x ∷ xs) p → IsOneOf (x ∷ xs) p ⊎ (k ≡ p)
    first (inl e) = inr e
    first (inr h) = inl h

    later : (IsOneOf (insert_key nat_cmp xs k) p → IsOneOf xs p ⊎ (k ≡ p)) → IsOneOf (x ∷ insert_key nat_cmp xs k) p → IsOneOf (x ∷ xs) p ⊎ (k ≡ p)
    later more (inl e) = inl (inl e)
    later more (inr h) = elim (more h) [ inl m ↦ inl (inr m) | inr e ↦ inr e ]

-- more than each of the numbers
abbrev pub above : List ℕ → ℕ
above [] = 0
above (k ∷ ks) = max (k + 1) (above ks)

pub below_above : (ks : List ℕ) (p : ℕ) → IsOneOf ks p → p < above ks
below_above [] p h = absurd h
below_above (k ∷ ks) p (inl e) = omega (arith, e)
below_above (k ∷ ks) p (inr h) = omega (arith, below_above ks p h)

pub above_least : (ks : List ℕ) (p : ℕ) → ((q : ℕ) → IsOneOf ks q → q < p) → above ks ≤ p
above_least [] p h = omega arith
above_least (k ∷ ks) p h = omega (arith, h k (inl refl), above_least ks p (λ q m. h q (inr m)))

less_by : (q k : ℕ) → IsLtBy nat_cmp q k → q < k
less_by q k e = by (nat_lt q k) refl
  where
    by : (b : Bool) → nat_lt q k ≡ b → q < k
    by true t = ltb-true q k t
    by false t = by_equal (nat_eq q k) (sym (ap (λ c. if c then Less else (if nat_eq q k then Equal else Greater)) t) ∙ e)
      where
        by_equal : (b : Bool) → (if b then Equal else Greater) ≡ Less → q < k
        by_equal true f = absurd (cc f)
        by_equal false f = absurd (cc f)

pub all_less : (ks : List ℕ) (k q : ℕ) → All (λ p. IsLtBy nat_cmp p k) ks → IsOneOf ks q → q < k
all_less ks k q a h = at ks h a
  where
    at : (xs : List ℕ) → IsOneOf xs q → All (λ p. IsLtBy nat_cmp p k) xs → q < k
    at [] m b = absurd m
    at (x ∷ xs) (inl e) b = let l = less_by x k (b 0 x (omega arith)) in omega (arith, e)
    at (x ∷ xs) (inr m) b = at xs m (λ i d lt. b (suc i) d (omega arith))

-- ---- what operations add

module _ (places : List ℕ) where
  -- the place of a definition that the operations put in
  abbrev pub IsAdded : List Op → ℕ → Type 0
  IsAdded ops p = (i : ℕ) × Substitutes ops i × (i < length places) × (place_of places i ≡ p)

  place_keeps : (i : ℕ) (ks : List ℕ) (p : ℕ) → IsOneOf ks p → IsOneOf (add_place places i ks) p
  place_keeps i ks p h = by (nat_lt i (length places))
    where
      by : (b : Bool) → IsOneOf (if b then insert_key nat_cmp ks (place_of places i) else ks) p
      by true = insert_keeps ks (place_of places i) p h
      by false = h

  place_has : (i : ℕ) (ks : List ℕ) → i < length places → IsOneOf (add_place places i ks) (place_of places i)
  place_has i ks lt = subst (λ (b : Bool). IsOneOf (if b then insert_key nat_cmp ks (place_of places i) else ks) (place_of places i)) (sym (lt-ltb i (length places) lt)) (insert_has ks (place_of places i))

  place_only : (i : ℕ) (ks : List ℕ) (p : ℕ) → IsOneOf (add_place places i ks) p → IsOneOf ks p ⊎ ((i < length places) × (place_of places i ≡ p))
  place_only i ks p = by (nat_lt i (length places)) refl
    where
      by : (b : Bool) → nat_lt i (length places) ≡ b → IsOneOf (if b then insert_key nat_cmp ks (place_of places i) else ks) p → IsOneOf ks p ⊎ ((i < length places) × (place_of places i ≡ p))
      by true t h = elim (insert_only ks (place_of places i) p h) [ inl m ↦ inl m | inr e ↦ inr (ltb-true i (length places) t, e) ]
      by false t h = inl h

  op_keeps : (op : Op) (ks : List ℕ) (p : ℕ) → IsOneOf ks p → IsOneOf (add_op places op ks) p
  op_keeps (substitute i) ks p h = place_keeps i ks p h
  op_keeps (class s) ks p h = h
  op_keeps (quoted s) ks p h = h
  op_keeps (repeat r) ks p h = h
  op_keeps group ks p h = h
  op_keeps (join n) ks p h = h
  op_keeps (either n) ks p h = h

  op_only : (op : Op) (ks : List ℕ) (p : ℕ) → IsOneOf (add_op places op ks) p → IsOneOf ks p ⊎ ((i : ℕ) × (op ≡ substitute i) × (i < length places) × (place_of places i ≡ p))
  op_only (substitute i) ks p h = elim (place_only i ks p h) [ inl m ↦ inl m | inr e ↦ inr (i, refl, e.0, e.1) ]
  op_only (class s) ks p h = inl h
  op_only (quoted s) ks p h = inl h
  op_only (repeat r) ks p h = inl h
  op_only group ks p h = inl h
  op_only (join n) ks p h = inl h
  op_only (either n) ks p h = inl h

  pub used_keeps : (ops : List Op) (ks : List ℕ) (p : ℕ) → IsOneOf ks p → IsOneOf (add_used places ks ops) p
  used_keeps [] ks p h = h
  used_keeps (op ∷ ops) ks p h = used_keeps ops (add_op places op ks) p (op_keeps op ks p h)

  pub used_has : (ops : List Op) (ks : List ℕ) (i : ℕ) → Substitutes ops i → i < length places → IsOneOf (add_used places ks ops) (place_of places i)
  used_has [] ks i h lt = absurd h
  used_has (op ∷ ops) ks i (inl e) lt =
      used_keeps ops (add_op places op ks) (place_of places i) (subst (λ (o : Op). IsOneOf (add_op places o ks) (place_of places i)) (sym e) (place_has i ks lt))
  used_has (op ∷ ops) ks i (inr h) lt = used_has ops (add_op places op ks) i h lt

  pub used_only : (ops : List Op) (ks : List ℕ) (p : ℕ) → IsOneOf (add_used places ks ops) p → IsOneOf ks p ⊎ IsAdded ops p
  used_only [] ks p h = inl h
  used_only (op ∷ ops) ks p h =
      elim (used_only ops (add_op places op ks) p h) [
        | inl k ↦ elim (op_only op ks p k) [ inl m ↦ inl m | inr e ↦ inr (e.0, inl e.1, e.2, e.3) ]
        | inr a ↦ inr (a.0, inr a.1, a.2, a.3)
      ]

  used-append : (xs ys : List Op) (ks : List ℕ) → add_used places ks (xs ++ ys) ≡ add_used places (add_used places ks xs) ys
  used-append [] ys ks = refl
  used-append (x ∷ xs) ys ks = used-append xs ys (add_op places x ks)

  pub used_more : (start s t : List ℕ) (xs : List code.Op) (i : ℕ) (x : code.Op) → i < length xs → x ≡ get_or xs i x → s ≡ add_used places start (ops_of (take i xs)) → t ≡ add_op places (op_of x) s
      → t ≡ add_used places start (ops_of (take (i + 1) xs))
  used_more start s t xs i x lt e is after =
      after
      ∙ ap (add_op places (op_of x)) is
      ∙ sym (used-append (ops_of (take i xs)) (op_of x ∷ []) start)
      ∙ ap (add_used places start) (sym (ap ops_of (take_more xs i x lt ∙ ap (λ (y : code.Op). take i xs ++ y ∷ []) (sym e)) ∙ map_push op_of (take i xs) x))

-- ---- parts of an order

pub split_at : (xs : List ℕ) (i : ℕ) → i < length xs → xs ≡ take i xs ++ get_or xs i 0 ∷ drop (suc i) xs
split_at xs i lt = sym (take-append-drop i xs) ∙ ap (λ (ys : List ℕ). take i xs ++ ys) (drop-cons xs i 0 lt)

-- each definition stands in the order, behind those that its operations put in
pub record IsBehind (bodies : List (Vec code.Op)) (order : List ℕ) : Type 0 where
  pub all : (i : ℕ) → i < length bodies → Contains order i
  pub within : (i : ℕ) → Contains order i → i < length bodies
  pub behind : (before after : List ℕ) (i j : ℕ) → order ≡ before ++ i ∷ after → Substitutes (ops_at bodies i) j → j < length bodies → Contains before j

-- ---- taking the last of those that wait

module _ (ops : List Op) (bodies : List (Vec code.Op)) (order places : List ℕ) (b : IsBehind bodies order) (a : ArePlaces (length bodies) order places) where
  got_other : (xs : List ℕ) (k d e : ℕ) → k < length xs → get_or xs k d ≡ get_or xs k e
  got_other [] k d e lt = absurd (omega arith)
  got_other (x ∷ xs) zero d e lt = refl
  got_other (x ∷ xs) (suc k) d e lt = got_other xs k d e (omega arith)

  -- a definition stands at its place
  pub at_place : (i : ℕ) → i < length bodies → (place_of places i < length order) × (get_or order (place_of places i) 0 ≡ i)
  at_place i lt =
      let c = b.all i lt in
      let e : get_or order c.0 0 ≡ i = got_other order c.0 0 i c.1 ∙ c.2 in
      let f : place_of places i ≡ c.0 = ap (place_of places) (sym e) ∙ a.each c.0 c.1 in
      (omega (arith, f, c.1), ap (λ k. get_or order k 0) f ∙ e)

  taken_at : (xs : List ℕ) (k p d : ℕ) → k < length (take p xs) → (k < p) × (k < length xs) × (get_or (take p xs) k d ≡ get_or xs k d)
  taken_at [] k zero d lt = absurd (omega arith)
  taken_at [] k (suc p) d lt = absurd (omega arith)
  taken_at (x ∷ xs) k zero d lt = absurd (omega arith)
  taken_at (x ∷ xs) zero (suc p) d lt = (omega arith, omega arith, refl)
  taken_at (x ∷ xs) (suc k) (suc p) d lt = let h = taken_at xs k p d (omega arith) in (omega (arith, h.0), omega (arith, h.1), h.2)

  -- what a definition uses stands at lower places
  pub lower : (p j : ℕ) → p < length order → Substitutes (ops_at bodies (get_or order p 0)) j → j < length bodies → place_of places j < p
  lower p j lt s below =
      let c = b.behind (take p order) (drop (suc p) order) (get_or order p 0) j (split_at order p lt) s below in
      let t = taken_at order c.0 p j c.1 in
      let e : get_or order c.0 0 ≡ j = got_other order c.0 0 j t.1 ∙ sym t.2 ∙ c.2 in
      let f : place_of places j ≡ c.0 = ap (place_of places) (sym e) ∙ a.each c.0 t.1 in
      omega (arith, f, t.0)

  -- what each of them uses stands behind it, or waits
  abbrev pub StandOrWait : List ℕ → List ℕ → Type 0
  StandOrWait pending [] = Unit {0}
  StandOrWait pending (i ∷ more) = (i < length bodies) × ((j : ℕ) → Substitutes (ops_at bodies i) j → j < length bodies → IsOneOf more j ⊎ IsOneOf pending (place_of places j)) × StandOrWait pending more

  pub record AreTaken (needed pending : List ℕ) : Type 0 where
    pub used : (i : ℕ) → Substitutes ops i → i < length bodies → IsOneOf needed i ⊎ IsOneOf pending (place_of places i)
    pub stand : StandOrWait pending needed
    pub only : (i : ℕ) → IsOneOf needed i → Needs bodies ops i
    pub wait : (p : ℕ) → IsOneOf pending p → (p < length order) × Needs bodies ops (get_or order p 0)

  -- what waits after a step
  abbrev pub after : List ℕ → ℕ → List ℕ
  after rest p = add_used places rest (ops_at bodies (get_or order p 0))

  -- what stood at the place or waits still
  passes : (needed rest : List ℕ) (p j : ℕ) → j < length bodies → IsOneOf needed j ⊎ IsOneOf (rest ++ p ∷ []) (place_of places j) → IsOneOf (needed ++ get_or order p 0 ∷ []) j ⊎ IsOneOf (after rest p) (place_of places j)
  passes needed rest p j lt (inl h) = inl (one_left needed (get_or order p 0 ∷ []) j h)
  passes needed rest p j lt (inr h) =
      elim (one_cases rest p (place_of places j) h) [
        | inl m ↦ inr (used_keeps places (ops_at bodies (get_or order p 0)) rest (place_of places j) m)
        | inr e ↦ inl (subst (λ i. IsOneOf (needed ++ get_or order p 0 ∷ []) i) (ap (λ k. get_or order k 0) e ∙ (at_place j lt).1) (one_last needed (get_or order p 0)))
      ]

  stand_more : (needed rest : List ℕ) (p : ℕ) → p < length order → StandOrWait (rest ++ p ∷ []) needed → StandOrWait (after rest p) (needed ++ get_or order p 0 ∷ [])
  stand_more [] rest p lt h = (
    b.within (get_or order p 0) (p, lt, got_other order p (get_or order p 0) 0 lt),
    λ j s below. inr (used_has places (ops_at bodies (get_or order p 0)) rest j s (let e = a.count_is in omega arith)),
    tt,
  )
  stand_more (i ∷ more) rest p lt h = (h.0, λ j s below. passes more rest p j below (h.1 j s below), stand_more more rest p lt h.2)

  pub taken_start : AreTaken [] (add_used places [] ops)
  taken_start = record {
    used = λ i s lt. inr (used_has places ops [] i s (let e = a.count_is in omega arith));
    stand = tt;
    only = λ i h. absurd h;
    wait = λ p h. elim (used_only places ops [] p h) [
      | inl m ↦ absurd m
      | inr u ↦
          let lt : u.0 < length bodies = (let e = a.count_is in let l = u.2 in omega arith) in
          let at = at_place u.0 lt in
          (omega (arith, at.0, u.3), subst (Needs bodies ops) (sym (at.1) ∙ ap (λ k. get_or order k 0) u.3) (directly u.0 u.1 lt))
    ];
  }

  pub taken_step : (needed rest : List ℕ) (p : ℕ) → AreTaken needed (rest ++ p ∷ []) → AreTaken (needed ++ get_or order p 0 ∷ []) (after rest p)
  taken_step needed rest p h =
      let last = h.wait p (one_last rest p) in
      record {
        used = λ i s lt. passes needed rest p i lt (h.used i s lt);
        stand = stand_more needed rest p last.0 h.stand;
        only = λ i m. elim (one_cases needed (get_or order p 0) i m) [
          | inl k ↦ h.only i k
          | inr e ↦ subst (Needs bodies ops) e last.1
        ];
        wait = λ q m. elim (used_only places (ops_at bodies (get_or order p 0)) rest q m) [
          | inl k ↦ h.wait q (one_left rest (p ∷ []) q k)
          | inr u ↦
              let lt : u.0 < length bodies = (let e = a.count_is in let l = u.2 in omega arith) in
              let at = at_place u.0 lt in
              (omega (arith, at.0, u.3), subst (Needs bodies ops) (sym (at.1) ∙ ap (λ k. get_or order k 0) u.3) (behind (get_or order p 0) u.0 last.1 u.1 lt))
        ];
      }

  pub falls : (needed rest : List ℕ) (p : ℕ) → AreTaken needed (rest ++ p ∷ []) → All (λ q. IsLtBy nat_cmp q p) rest → above (after rest p) < above (rest ++ p ∷ [])
  falls needed rest p h less =
      let last = h.wait p (one_last rest p) in
      let most = above_least (after rest p) p (λ q m. elim (used_only places (ops_at bodies (get_or order p 0)) rest q m) [
        | inl k ↦ all_less rest p q less k
        | inr u ↦
            let low = lower p u.0 last.0 u.1 (let e = a.count_is in let l = u.2 in omega arith) in
            let e = u.3 in
            omega arith
      ]) in
      omega (arith, most, below_above (rest ++ p ∷ []) p (one_last rest p))

  stands : (needed : List ℕ) → StandOrWait [] needed → AreInOrder bodies needed
  stands [] h = tt
  stands (i ∷ more) h = (h.0, λ j s lt. elim (h.1 j s lt) [ inl m ↦ m | inr none ↦ absurd none ], stands more h.2)

  -- what one of them uses is one of them
  closed : (needed : List ℕ) (i j : ℕ) → AreInOrder bodies needed → IsOneOf needed i → Substitutes (ops_at bodies i) j → j < length bodies → IsOneOf needed j
  closed [] i j o h s lt = absurd h
  closed (x ∷ more) i j o (inl e) s lt = inr (o.1 j (subst (λ k. Substitutes (ops_at bodies k) j) (sym e) s) lt)
  closed (x ∷ more) i j o (inr h) s lt = inr (closed more i j o.2 h s lt)

  -- at the end they are just the needed ones
  pub taken_all : (needed : List ℕ) → AreTaken needed [] → AreNeeded bodies ops needed
  taken_all needed h = record { all = all; only = h.only; in_order = order_of }
    where
      order_of : AreInOrder bodies needed
      order_of = stands needed h.stand

      all : (i : ℕ) → Needs bodies ops i → IsOneOf needed i
      all i (directly j s lt) = elim (h.used j s lt) [ inl m ↦ m | inr none ↦ absurd none ]
      all i (behind j k n s lt) = closed needed j k order_of (all j n) s lt
