-- What an automaton answers, from its tables.
use Rattle.std.proofs.Common.{◌≡◌, ◌≢◌, ℕ, zero, suc, ◌*◌, ◌/◌, ◌<◌, ◌≤◌, Bool, true, false, List, [], ◌∷◌, ◌++◌, inl, inr, Some, None, refl, sym, ap, ◌∙◌, subst, arith, length, map, Contains, get_or}
use Rattle.std.specs.Prelude.{slice_get, Option, IfSome, IsTrue, ◌↔◌, Result, Ok, Err, is_ok}
use Rattle.std.specs.List.Sorted.{IsBinarySearchResult}
use Rattle.std.specs.Ordering.{nat_cmp}
use Rattle.std.specs.Result.{MatchResult}
use Rattle.std.proofs.lemmas.List.Elements.{Contains-get_or}
use Rattle.std.proofs.lemmas.List.Sorted.{searched}
use Rattle.cs_pattern_parts.specs.Tree.Pattern.{Regex, regex}
use Rattle.cs_scanner.proofs.OnAutomaton.Listing.{ascend_most}
use Rattle.std.proofs.lemmas.Bool.{false≢true, cases_lt}
use Rattle.std.proofs.lemmas.List.{length-map, get_or_default}
use Rattle.std.proofs.lemmas.Option.{slice_get_within}
use Rattle.cs_pattern_parts.specs.Items.Members.{picked}
use Rattle.cs_pattern_parts.proofs.OnItems.Picked.{has_picked_above, has_picked, has-contains, contains-has}
use Rattle.cs_pattern_parts.specs.declared.tree.pattern.Pattern.{Pattern}
use Rattle.cs_scanner.specs.Automaton.Automata.{members, step_at, AreTables}
use Rattle.cs_scanner.specs.Automaton.Bits.{bit}
use Rattle.cs_scanner.specs.Automaton.Machine.{Machine, StateOf, StandsForSome, HasOwnSets, IsNextState, IsFirstRule, MatchesRule, AreMatching}
use Rattle.cs_scanner.specs.Automaton.Meaning.{res, all_classes}
use Rattle.cs_scanner.specs.Automaton.Places.{IsSet}
use Rattle.cs_scanner.specs.Automaton.Re.{Re}
use Rattle.cs_scanner.specs.Automaton.Rules.{AreSpelled, IsBegunSpelled}
use Rattle.cs_scanner.specs.Automaton.States.{StandsFor, IsStep, AreColumns, IsBuilt, AreRulesOf, AreFull, HasSome, IsColumn}
use Rattle.cs_scanner.proofs.OnAutomaton.BitLemmas.{past_bit}
use Rattle.cs_scanner.proofs.OnAutomaton.Counting.{full_all, byte_step, step_within}
use Rattle.cs_scanner.proofs.OnAutomaton.Growing.{append_some, same_words}
use Rattle.cs_scanner.proofs.OnAutomaton.Meanings.{all_matched, begun_spelled, begun_matched}
use Rattle.cs_scanner.proofs.OnAutomaton.Reached.{in_set_reaches, reaches_in_set}
use Rattle.cs_scanner.proofs.OnAutomaton.Rules.{begun_reaches, reaches_begun}

-- ---- the numbers of a set

pub picked_passes : (t : ℕ → Bool) (n m : ℕ) → Contains (picked t n) m → (m < n) × (t m ≡ true)
picked_passes t n m h =
    let there = contains-has (picked t n) m h in
    elim (cases_lt m n) [
      | inl lt ↦ (lt, sym (has_picked t n m lt) ∙ there)
      | inr le ↦ absurd (false≢true (sym (has_picked_above t n m le) ∙ there))
    ]

pub passes_picked : (t : ℕ → Bool) (n m : ℕ) → m < n → t m ≡ true → Contains (picked t n) m
passes_picked t n m lt h = has-contains (picked t n) m (has_picked t n m lt ∙ h)

bit_within : (words : List ℕ) (n : ℕ) → bit words n ≡ true → n < 64 * length words
bit_within words n h =
    elim (cases_lt (n / 64) (length words)) [
      | inl lt ↦ omega (arith, lt)
      | inr le ↦ absurd (false≢true (sym (past_bit words n le) ∙ h))
    ]

mapped : (ws : List (List ℕ)) (k : ℕ) (ps : List ℕ) → slice_get (map members ws) k ≡ Some ps → (w : List ℕ) × (slice_get ws k ≡ Some w) × (members w ≡ ps)
mapped [] k ps e = absurd cc
mapped (w ∷ ws) zero ps e = (w, refl, cc)
mapped (w ∷ ws) (suc k) ps e = mapped ws k ps e

map_there : (ws : List (List ℕ)) (k : ℕ) (w : List ℕ) → slice_get ws k ≡ Some w → slice_get (map members ws) k ≡ Some (members w)
map_there [] k w e = absurd cc
map_there (v ∷ ws) zero w e = let same : v ≡ w = cc in ap (λ t. Some (members t)) same
map_there (v ∷ ws) (suc k) w e = map_there ws k w e

nothing_picked : (t : ℕ → Bool) (n : ℕ) → ((m : ℕ) → t m ≡ false) → picked t n ≡ []
unfolding picked
nothing_picked t zero none = refl
nothing_picked t (suc n) none = rw (nothing_picked t n none, none n) refl

-- words with the same numbers have the same bits
member_bit : (v w : List ℕ) → members v ≡ members w → (n : ℕ) → bit v n ≡ true → bit w n ≡ true
member_bit v w e n h =
    (picked_passes (bit w) (64 * length w) n (subst (λ (l : List ℕ). Contains l n) e (passes_picked (bit v) (64 * length v) n (bit_within v n h) h))).1

one_bit : (v w : List ℕ) → members v ≡ members w → (n : ℕ) → bit v n ≡ bit w n
one_bit v w e n = by_bit (bit v n) (bit w n) refl refl
  where
    by_bit : (a b : Bool) → a ≡ bit v n → b ≡ bit w n → bit v n ≡ bit w n
    by_bit true b p q = sym p ∙ sym (member_bit v w e n (sym p))
    by_bit false true p q = absurd (false≢true (p ∙ member_bit w v (sym e) n (sym q)))
    by_bit false false p q = sym p ∙ q

module _ (patterns : List Pattern) (ws : List (List ℕ)) where
  abbrev rs : List (Re (List ℕ))
  rs = res (map regex patterns)

  abbrev pub machine : Machine
  machine = record { patterns = patterns; sets = map members ws }

  module _ (full : AreFull rs) where
    pub viewed : (k : ℕ) (x : List ℕ) → StateOf machine k x → StandsFor rs ws k x
    viewed zero x s = s
    viewed (suc k) x s =
        let w = mapped ws (suc k) s.0 s.1 in
        let P : List ℕ → Type 0 = λ t. IsSet rs x t in
        let is = subst P (sym w.2) s.3 in (
          w.0,
          w.1,
          s.2,
          record {
            reached = λ p h. in_set_reaches rs x p ((is p).0 (passes_picked (bit w.0) (64 * length w.0) p (bit_within w.0 p h) h));
            all = λ p r. (picked_passes (bit w.0) (64 * length w.0) p ((is p).1 (reaches_in_set rs HasSome (full_all rs full) x p r))).1;
          },
        )

    pub shown : (k : ℕ) (x : List ℕ) → StandsFor rs ws k x → StateOf machine k x
    shown zero x s = s
    shown (suc k) x s = (
      members s.0,
      map_there ws (suc k) s.0 s.1,
      s.2,
      λ p. (
        λ c. reaches_in_set rs HasSome (full_all rs full) x p (s.3.reached p (picked_passes (bit s.0) (64 * length s.0) p c).1),
        λ i. let h = s.3.all p (in_set_reaches rs x p i) in passes_picked (bit s.0) (64 * length s.0) p (bit_within s.0 p h) h,
      ),
    )

  module _ (steps : List (List (Option ℕ))) (column_of : List ℕ) (rules : List (List ℕ)) (t : AreTables rs ws steps column_of rules) where
    state_begun : (j : ℕ) (x : List ℕ) → x ≢ [] → StandsFor rs ws j x → IsBegunSpelled rs x
    state_begun zero x ne s = absurd (ne s)
    state_begun (suc j) x ne s =
        let state = t.states.each j s.0 s.1 in
        let r = s.3.reached state.number state.some in
        reaches_begun rs HasSome (λ c k. k) (full_all rs t.full) x r.place r.next r.reaches

    answer_by : (k byte : ℕ) (to : Option ℕ) → IsStep rs ws k byte to → (x : List ℕ) → StateOf machine k x → IsNextState machine x byte to
    answer_by k byte None step x s = λ b.
        let r = begun_reaches rs (x ++ byte ∷ []) (append_some rs x byte) (begun_spelled (map regex patterns) (x ++ byte ∷ []) b) in
        step x (viewed t.full k x s) r.0 r.1 r.2
    answer_by k byte (Some j) step x s =
        let next = step x (viewed t.full k x s) in
        (begun_matched (map regex patterns) (x ++ byte ∷ []) (state_begun j (x ++ byte ∷ []) (append_some rs x byte) next), shown t.full j (x ++ byte ∷ []) next)

    pub answer : (k byte : ℕ) (to : Option ℕ) → k < length ws → byte < 256 → to ≡ step_at steps column_of k byte → (x : List ℕ) → StateOf machine k x → IsNextState machine x byte to
    answer k byte to lt fits is = answer_by k byte to (subst (λ o. IsStep rs ws k byte o) (sym is) (t.step k byte lt fits))

    pub answer_within : (k byte : ℕ) (to : Option ℕ) → k < length ws → byte < 256 → to ≡ step_at steps column_of k byte → IfSome to (λ j. j < length (map members ws))
    answer_within k byte None lt fits is = tt
    answer_within k byte (Some j) lt fits is = let below = t.within k byte j lt fits (sym is) in omega (arith, below, length-map ws members)

    pub rules_answer : (k : ℕ) (row : List ℕ) → k < length ws → row ≡ get_or rules k [] → (x : List ℕ) → StateOf machine k x → AreMatching (map regex patterns) x row
    rules_answer k row lt is x s =
        all_matched (map regex patterns) x row (subst (λ o. AreSpelled rs x o) (sym is) (t.rules_are k x (omega (arith, lt, t.each)) (viewed t.full k x s)))

    pub own_sets : HasOwnSets machine
    own_sets = record { start = start_empty; each = each; apart = apart }
      where
        start_empty : slice_get (map members ws) 0 ≡ Some []
        start_empty =
            let s = t.states.start in
            map_there ws 0 s.0 s.1 ∙ ap (λ (ps : List ℕ). Some ps) (nothing_picked (bit s.0) (64 * length s.0) s.2)

        each : (k : ℕ) (ps : List ℕ) → slice_get (map members ws) (suc k) ≡ Some ps → StandsForSome machine k ps
        each k ps e =
            let w = mapped ws (suc k) ps e in
            let s = t.states.each k w.0 w.1 in
            record {
              text = s.text;
              bytes = s.bytes;
              stands = shown t.full (suc k) s.text (w.0, w.1, s.not_empty, s.reached);
              number = s.number;
              has = subst (λ (l : List ℕ). Contains l s.number) w.2 (passes_picked (bit w.0) (64 * length w.0) s.number (bit_within w.0 s.number s.some) s.some);
            }

        apart : (j k : ℕ) (ps : List ℕ) → slice_get (map members ws) j ≡ Some ps → slice_get (map members ws) k ≡ Some ps → j ≡ k
        apart j k ps d e =
            let v = mapped ws j ps d in
            let w = mapped ws k ps e in
            let wide = t.states.wide j v.0 v.1 in
            let broad = t.states.wide k w.0 w.1 in
            let same : v.0 ≡ w.0 = same_words v.0 w.0 (wide.0 ∙ sym broad.0) wide.1 broad.1 (one_bit v.0 w.0 (v.2 ∙ sym w.2)) in
            t.states.apart j k v.0 v.1 (subst (λ (l : List ℕ). slice_get ws k ≡ Some l) (sym same) w.1)

-- ---- from the rules that match

-- the first of them is the lowest
pub first_matches : (ps : List Regex) (x rules : List ℕ) (answer : Option ℕ) → AreMatching ps x rules → answer ≡ slice_get rules 0 → IsFirstRule ps x answer
first_matches ps x [] None are is = λ rule m. let c = are.all rule m in omega (arith, c.1)
first_matches ps x [] (Some rule) are is = absurd cc
first_matches ps x (r ∷ rules) None are is = absurd cc
first_matches ps x (r ∷ rules) (Some rule) are is =
    let same : rule ≡ r = cc in
    subst (λ n. IsFirstRule ps x (Some n)) (sym same) (
      are.only r (Contains-get_or (r ∷ rules) 0 0 (omega arith)),
      λ other m. let c = are.all other m in omega (arith, ascend_most (r ∷ rules) are.ascend 0 c.0 (omega arith) c.1, get_or_default (r ∷ rules) c.0 0 other c.1, c.2),
    )

-- what a search finds of a rule
pub found_matches : (ps : List Regex) (x rules : List ℕ) (rule : ℕ) (r : Result ℕ ℕ) → AreMatching ps x rules → IsBinarySearchResult (λ y. nat_cmp y rule) rules r → IsTrue (is_ok r) ↔ MatchesRule ps rule x
found_matches ps x rules rule r are h = by r (searched rules rule r h (ascend_most rules are.ascend))
  where
    by : (r : Result ℕ ℕ) → MatchResult r (λ i. (i < length rules) × (get_or rules i 0 ≡ rule)) (λ i. (i ≤ length rules) × ((k : ℕ) → k < i → get_or rules k 0 < rule) × ((k : ℕ) → i ≤ k → k < length rules → rule < get_or rules k 0)) → IsTrue (is_ok r) ↔ MatchesRule ps rule x
    by (Ok i) found = (λ yes. are.only rule (subst (Contains rules) found.1 (Contains-get_or rules i 0 found.0)), λ m. refl)
    by (Err i) lost = (
      λ yes. absurd cc,
      λ m.
          let c = are.all rule m in
          let here = get_or_default rules c.0 0 rule c.1 in
          absurd (elim (cases_lt c.0 i) [ inl less ↦ omega (arith, lost.1 c.0 less, here, c.2) | inr most ↦ omega (arith, lost.2 c.0 most c.1, here, c.2) ]),
    )

-- ---- the tables of what was built

pub tables_of : (qs : List (Re (List ℕ))) (rows : List (List ℕ)) (column_of : List ℕ) (width : ℕ) (sets : List (List ℕ)) (steps : List (List (Option ℕ))) (rules : List (List ℕ)) → AreFull qs → AreColumns (all_classes qs) rows column_of width → IsBuilt qs rows width 16384 sets steps → AreRulesOf qs sets rules → length rules ≡ length sets → AreTables qs sets steps column_of rules
tables_of qs rows column_of width sets steps rules full columns built are each =
    record {
      full = full;
      width = width;
      few = built.few;
      states = built.states;
      columns = columns.many;
      rows = built.all;
      columns_within = λ k byte row at fits.
          let c = columns.found byte fits in
          omega (arith, (built.steps_are k row at).0, slice_get_within rows (get_or column_of byte 0) c.0 c.1);
      step = λ k byte lt fits. byte_step qs full rows column_of width 16384 columns sets steps built k byte lt fits;
      within = λ k byte j lt fits e. step_within qs full rows column_of width 16384 columns sets steps built k byte j lt (subst (λ o. IsStep qs sets k byte o) e (byte_step qs full rows column_of width 16384 columns sets steps built k byte lt fits));
      rules_are = are;
      each = each;
    }

pub columns_are : (qs : List (Re (List ℕ))) (rows : List (List ℕ)) (column_of : List ℕ) (width : ℕ) → AreColumns (all_classes qs) rows column_of width → (k : ℕ) (row : List ℕ) → slice_get rows k ≡ Some row → IsColumn qs width row
columns_are qs rows column_of width columns k row at =
    let c = columns.some k row at in
    record { long = c.0; byte = c.1.0; fits = c.1.1; is = c.1.2 }
