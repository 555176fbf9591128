-- No more sets than states, and as many sets as states.
use Rattle.std.proofs.Common.{◌≡◌, ◌≢◌, ℕ, zero, suc, ◌+◌, ◌<◌, Bool, true, false, List, [], ◌∷◌, ◌++◌, ◌⊎◌, inl, inr, Some, None, refl, sym, ap, ◌∙◌, subst, arith, length, get_or, append_assoc, append-nil, All}
use Rattle.std.specs.Prelude.{slice_get, Option}
use Rattle.std.specs.List.{AllByRecursion}
use Rattle.std.proofs.lemmas.Bool.{false≢true}
use Rattle.std.proofs.lemmas.Option.{slice_get_within, slice_get-get_or}
use Rattle.cs_scanner.specs.Automaton.Bits.{bit}
use Rattle.cs_scanner.specs.Automaton.Counted.{HaveOneSet, IsAbove}
use Rattle.cs_scanner.specs.Automaton.Meaning.{all_classes}
use Rattle.cs_scanner.specs.Automaton.Places.{NumberedClass, InSet}
use Rattle.cs_scanner.specs.Automaton.Re.{Re}
use Rattle.cs_scanner.specs.Automaton.Reached.{Reaches}
use Rattle.cs_scanner.specs.Automaton.Rules.{SpellsRule, IsBegunSpelled}
use Rattle.cs_scanner.specs.Automaton.States.{IsReached, AreColumns, StandsFor, AreBytes, IsState, HasStates, IsStep, IsBuilt, HasSome, AreFull}
use Rattle.cs_scanner.proofs.OnAutomaton.Full.{AllFull}
use Rattle.cs_scanner.proofs.OnAutomaton.Numbers.{few_numbers}
use Rattle.cs_scanner.proofs.OnAutomaton.Growing.{append_some, same_words, has_text}
use Rattle.cs_scanner.proofs.OnAutomaton.Reached.{in_set_reaches, reaches_in_set}
use Rattle.cs_scanner.proofs.OnAutomaton.Rules.{begun_reaches, reaches_begun}

pub full_all : (rs : List (Re (List ℕ))) → AreFull rs → AllFull HasSome rs
full_all [] h = tt
full_all (r ∷ rs) h = (h.0, full_all rs h.1)

module _ (rs : List (Re (List ℕ))) (full : AreFull rs) where
  abbrev ReachesNothing : List ℕ → Type 0
  ReachesNothing x = (a : NumberedClass) (next : List (Re NumberedClass)) → Reaches rs x a next → ⊥

  -- where x reaches nothing, no longer text does
  no_longer : (x z : List ℕ) → x ≢ [] → ReachesNothing x → ReachesNothing (x ++ z)
  no_longer x z ne h a next r =
      let b = reaches_begun rs HasSome (λ c k. k) (full_all rs full) (x ++ z) a next r in
      let shorter = begun_reaches rs x ne (b.0, z ++ b.1, subst (λ t. SpellsRule rs b.0 t) (append_assoc x z b.1) b.2) in
      h shorter.0 shorter.1 shorter.2

  -- ---- more sets than the limit

  same_bits : (v w : List ℕ) → ((n : ℕ) → bit v n ≡ true → bit w n ≡ true) → ((n : ℕ) → bit w n ≡ true → bit v n ≡ true) → (n : ℕ) → bit v n ≡ bit w n
  same_bits v w f g n = by (bit v n) (bit w n) refl refl
    where
      by : (a b : Bool) → a ≡ bit v n → b ≡ bit w n → bit v n ≡ bit w n
      by true b p q = sym p ∙ sym (f n (sym p))
      by false true p q = absurd (false≢true (p ∙ g n (sym q)))
      by false false p q = sym p ∙ q

  record TextOf (rest : List (List ℕ)) (k : ℕ) (x : List ℕ) : Type 0 where
    words : List ℕ
    at : slice_get rest k ≡ Some words
    bytes : AreBytes x
    not_empty : x ≢ []
    reached : IsReached rs x (bit words)
    number : ℕ
    some : bit words number ≡ true

  record Texts (rest : List (List ℕ)) : Type 0 where
    texts : List (List ℕ)
    many : length texts ≡ length rest
    each : (k : ℕ) (x : List ℕ) → slice_get texts k ≡ Some x → TextOf rest k x

  texts_of : (rest : List (List ℕ)) → ((k : ℕ) (ps : List ℕ) → slice_get rest k ≡ Some ps → IsState rs ps) → Texts rest
  texts_of [] h = record { texts = []; many = refl; each = λ k x e. absurd cc }
  texts_of (ps ∷ rest) h = put (h 0 ps refl) (texts_of rest (λ k qs e. h (suc k) qs e))
    where
      put : IsState rs ps → Texts rest → Texts (ps ∷ rest)
      put s t = record { texts = s.text ∷ t.texts; many = ap suc t.many; each = each }
        where
          each : (k : ℕ) (x : List ℕ) → slice_get (s.text ∷ t.texts) k ≡ Some x → TextOf (ps ∷ rest) k x
          each zero x e =
              let same : s.text ≡ x = cc in
              record { words = ps; at = refl; bytes = subst AreBytes same s.bytes; not_empty = subst (λ z. z ≢ []) same s.not_empty; reached = subst (λ z. IsReached rs z (bit ps)) same s.reached; number = s.number; some = s.some }
          each (suc k) x e =
              let o = t.each k x e in
              record { words = o.words; at = o.at; bytes = o.bytes; not_empty = o.not_empty; reached = o.reached; number = o.number; some = o.some }

  one_way : (x y v w : List ℕ) → IsReached rs x (bit v) → IsReached rs y (bit w) → ((p : ℕ) → InSet rs x p → InSet rs y p) → (n : ℕ) → bit v n ≡ true → bit w n ≡ true
  one_way x y v w r s h n c = s.all n (in_set_reaches rs y n (h n (reaches_in_set rs HasSome (full_all rs full) x n (r.reached n c))))

  pub too_many : (width limit : ℕ) (sets : List (List ℕ)) → HasStates rs width sets → limit + 1 < length sets → IsAbove (InSet rs) limit
  too_many width limit [] h lt = absurd (omega (arith, lt))
  too_many width limit (start ∷ rest) h lt = above (texts_of rest h.each)
    where
      above : Texts rest → IsAbove (InSet rs) limit
      above t = record { texts = t.texts; many = omega (arith, t.many, lt); each = each; differ = differ }
        where
          each : (k : ℕ) (x : List ℕ) → slice_get t.texts k ≡ Some x → (x ≢ []) × All (λ b. b < 256) x × ((p : ℕ) × InSet rs x p)
          each k x e =
              let o = t.each k x e in
              (o.not_empty, o.bytes, (o.number, reaches_in_set rs HasSome (full_all rs full) x o.number (o.reached.reached o.number o.some)))

          differ : (j k : ℕ) (x y : List ℕ) → slice_get t.texts j ≡ Some x → slice_get t.texts k ≡ Some y → HaveOneSet (InSet rs) x y → j ≡ k
          differ j k x y d e one =
              let o = t.each j x d in
              let q = t.each k y e in
              let forth = one_way x y o.words q.words o.reached q.reached (λ p. (one p).0) in
              let back = one_way y x q.words o.words q.reached o.reached (λ p. (one p).1) in
              let wide = h.wide (suc j) o.words o.at in
              let broad = h.wide (suc k) q.words q.at in
              let same = same_words o.words q.words (wide.0 ∙ sym broad.0) wide.1 broad.1 (same_bits o.words q.words forth back) in
              let apart = h.apart (suc j) (suc k) o.words o.at (subst (λ z. slice_get rest k ≡ Some z) (sym same) q.at) in
              omega (arith, apart)

  -- ---- all states stand there

  module _ (rows : List (List ℕ)) (column_of : List ℕ) (width limit : ℕ) (columns : AreColumns (all_classes rs) rows column_of width) (sets : List (List ℕ)) (all : List (List (Option ℕ))) (built : IsBuilt rs rows width limit sets all) where
    -- the step by a byte
    pub byte_step : (k byte : ℕ) → k < length sets → byte < 256 → IsStep rs sets k byte (get_or (get_or all k []) (get_or column_of byte 0) None)
    byte_step k byte lt fits =
        let steps = get_or all k [] in
        let at = slice_get-get_or all k [] (omega (arith, built.all, lt)) in
        let row = built.steps_are k steps at in
        let column = columns.found byte fits in
        row.1 (get_or column_of byte 0) byte column.0 (omega (arith, row.0, slice_get_within rows (get_or column_of byte 0) column.0 column.1)) column.1 column.2

    -- where the text leads
    record Led (x : List ℕ) : Type 0 where
      state : ℕ
      within : state < length sets
      stands : StandsFor rs sets state x

    stands_within : (j : ℕ) (x : List ℕ) → StandsFor rs sets j x → j < length sets
    stands_within zero x s = slice_get_within sets 0 built.states.start.0 built.states.start.1
    stands_within (suc j) x s = slice_get_within sets (suc j) s.0 s.1

    run : (z y : List ℕ) (k : ℕ) → k < length sets → StandsFor rs sets k y → AllByRecursion (λ b. b < 256) z → Led (y ++ z) ⊎ ReachesNothing (y ++ z)
    run [] y k lt s h = inl (record { state = k; within = lt; stands = subst (λ t. StandsFor rs sets k t) (sym (append-nil y)) s })
    run (b ∷ z) y k lt s h =
        elim (next (get_or (get_or all k []) (get_or column_of b 0) None) (byte_step k b lt h.0)) [
          | inl l ↦ subst (λ t. Led t ⊎ ReachesNothing t) (append_assoc y (b ∷ []) z) (run z (y ++ b ∷ []) l.0 l.1 l.2 h.1)
          | inr n ↦ inr (subst (λ t. ReachesNothing t) (append_assoc y (b ∷ []) z) (no_longer (y ++ b ∷ []) z (append_some rs y b) n))
        ]
      where
        next : (to : Option ℕ) → IsStep rs sets k b to → ((j : ℕ) × (j < length sets) × StandsFor rs sets j (y ++ b ∷ [])) ⊎ ReachesNothing (y ++ b ∷ [])
        next None step = inr (step y s)
        next (Some j) step = let t = step y s in inl (j, stands_within j (y ++ b ∷ []) t, t)

    -- two texts of one state have one set
    one_set : (k : ℕ) (x y : List ℕ) → x ≢ [] → StandsFor rs sets k x → StandsFor rs sets k y → HaveOneSet (InSet rs) x y
    one_set zero x y ne s t p = absurd (ne s)
    one_set (suc k) x y ne s t p =
        let a = s.1 in
        let b = t.1 in
        let same : s.0 ≡ t.0 = cc in
        let reached : IsReached rs y (bit s.0) = subst (λ z. IsReached rs y (bit z)) (sym same) t.3 in (
          λ i. reaches_in_set rs HasSome (full_all rs full) y p (reached.reached p (s.3.all p (in_set_reaches rs x p i))),
          λ i. reaches_in_set rs HasSome (full_all rs full) x p (s.3.reached p (reached.all p (in_set_reaches rs y p i))),
        )

    -- a text with a set that isn't empty has a state, one less than whose number is below the limit
    record Placed (x : List ℕ) (j : ℕ) : Type 0 where
      below : j < limit
      not_empty : x ≢ []
      stands : StandsFor rs sets (suc j) x

    by_recursion : (x : List ℕ) → AreBytes x → AllByRecursion (λ b. b < 256) x
    by_recursion [] h = tt
    by_recursion (b ∷ x) h = (h 0 0 (omega arith), by_recursion x (λ k d lt. h (suc k) d (omega (arith, lt))))

    placed : (x : List ℕ) → x ≢ [] → AreBytes x → (p : ℕ) → InSet rs x p → (j : ℕ) × Placed x j
    placed x ne h p i =
        elim (run x [] 0 (slice_get_within sets 0 built.states.start.0 built.states.start.1) refl (by_recursion x h)) [
          | inl l ↦ put l.state l.within l.stands
          | inr n ↦ let r = in_set_reaches rs x p i in absurd (n r.place r.next r.reaches)
        ]
      where
        put : (k : ℕ) → k < length sets → StandsFor rs sets k x → (j : ℕ) × Placed x j
        put zero lt s = absurd (ne s)
        put (suc j) lt s = (j, record { below = omega (arith, lt, built.few); not_empty = ne; stands = s })

    record Numbers (texts : List (List ℕ)) : Type 0 where
      numbers : List ℕ
      many : length numbers ≡ length texts
      each : (k j : ℕ) → slice_get numbers k ≡ Some j → (x : List ℕ) × (slice_get texts k ≡ Some x) × Placed x j

    number_all : (texts : List (List ℕ)) → ((k : ℕ) (x : List ℕ) → slice_get texts k ≡ Some x → (x ≢ []) × AreBytes x × ((p : ℕ) × InSet rs x p)) → Numbers texts
    number_all [] h = record { numbers = []; many = refl; each = λ k j e. absurd cc }
    number_all (x ∷ texts) h =
        let t = h 0 x refl in
        put (placed x t.0 t.1 t.2.0 t.2.1) (number_all texts (λ k y e. h (suc k) y e))
      where
        put : (j : ℕ) × Placed x j → Numbers texts → Numbers (x ∷ texts)
        put (j, here) rest = record { numbers = j ∷ rest.numbers; many = ap suc rest.many; each = each }
          where
            each : (k i : ℕ) → slice_get (j ∷ rest.numbers) k ≡ Some i → (y : List ℕ) × (slice_get (x ∷ texts) k ≡ Some y) × Placed y i
            each zero i e = let same : j ≡ i = cc in (x, refl, subst (λ t. Placed x t) same here)
            each (suc k) i e = rest.each k i e

    pub not_above : IsAbove (InSet rs) limit → ⊥
    not_above h = count (number_all h.texts h.each)
      where
        count : Numbers h.texts → ⊥
        count n = omega (arith, few_numbers n.numbers limit apart (λ k j e. (n.each k j e).2.below), n.many, h.many)
          where
            apart : (j k i : ℕ) → slice_get n.numbers j ≡ Some i → slice_get n.numbers k ≡ Some i → j ≡ k
            apart j k i d e =
                let a = n.each j i d in
                let b = n.each k i e in
                h.differ j k a.0 b.0 a.1 b.1 (one_set (suc i) a.0 b.0 a.2.not_empty a.2.stands b.2.stands)

    -- ---- what a step answers

    -- a state's text begins a match
    pub state_begun : (j : ℕ) (x : List ℕ) → x ≢ [] → StandsFor rs sets j x → IsBegunSpelled rs x
    state_begun zero x ne s = absurd (ne s)
    state_begun (suc j) x ne s =
        let state = built.states.each j s.0 s.1 in
        let r = s.3.reached state.number state.some in
        reaches_begun rs HasSome (λ c k. k) (full_all rs full) x r.place r.next r.reaches

    pub step_within : (k byte j : ℕ) → k < length sets → IsStep rs sets k byte (Some j) → j < length sets
    step_within k byte j lt step =
        let x = has_text rs width sets k (get_or sets k []) built.states (slice_get-get_or sets k [] lt) in
        stands_within j (x.0 ++ byte ∷ []) (step x.0 x.1)
