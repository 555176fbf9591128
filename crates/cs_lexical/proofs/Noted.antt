-- What the rules of one more state add to what was noted.
use Rattle.std.proofs.Common.{◌≡◌, ℕ, zero, suc, ◌+◌, ◌-◌, ◌<◌, ◌≤◌, ◌⊎◌, arith, List, [], ◌∷◌, ◌++◌, length, length-append, sym, ◌∙◌, ap, subst, refl, inl, inr, ⊎_elim, Option, Some, None}
use Rattle.std.specs.Prelude.{slice_get, slice_index, slice_index_or, All, Contains, IfSome, map, option_map, replicate}
use Rattle.std.proofs.lemmas.Bool.{cases_lt, cases_eq}
use Rattle.std.proofs.lemmas.List.{get_or-set_same, get_or-set_other, get_or_append_left, get_or_push, get_or_past, get_or-map, get_or-replicate, length-map, length-replicate}
use Rattle.std.proofs.lemmas.List.Elements.{Contains-get_or}
use Rattle.std.proofs.lemmas.Option.{slice_get_within, slice_get-get_or, slice_get-map}
use Rattle.cs_grammar.specs.Grammar.{IsNumberOf}
use Rattle.cs_pattern_parts.specs.Tree.Pattern.{regex}
use Rattle.cs_scanner.specs.Automaton.Machine.{AreMatching, IsFirstRule, Machine, MatchesRule, StateOf, patterns_of}
use Rattle.cs_scanner.specs.Lexeme.StateTexts.{AreStateTexts, IsStateText, StateText, entry_in}
use Rattle.cs_lexical.specs.Winning.{IsLeastIfAny, Overlap, Wins}
use Rattle.cs_lexical.specs.Least.{AreLeastTexts, least_of, named}
use Rattle.cs_lexical.specs.Noting.{AreBlank, AreNoted, AreRows, IsFirst, IsKept, IsLostAt, IsWonAt, NotesRows, NotesWin, noted, number_in}
use Rattle.cs_lexical.proofs.Firsts.{begun, first_is_least, not_empty}

-- a number is in a list or isn't
pub is_in : (xs : List ℕ) (x : ℕ) → Contains xs x ⊎ (Contains xs x → ⊥)
is_in [] x = inr (λ c. absurd (omega (arith, c.1)))
is_in (y ∷ xs) x = ⊎_elim
    (λ (same : y ≡ x). inl (0, omega arith, same))
    (λ (ne : y ≡ x → ⊥). ⊎_elim
    (λ (c : Contains xs x). inl (suc c.0, omega (arith, c.1), c.2))
    (λ (not : Contains xs x → ⊥). inr (λ c. neither c.0 c.1 c.2 ne not))
    (is_in xs x))
    (cases_eq y x)
  where
    neither : (k : ℕ) → k < length (y ∷ xs) → slice_index_or (y ∷ xs) k x ≡ x → (y ≡ x → ⊥) → (Contains xs x → ⊥) → ⊥
    neither zero less is ne not = ne is
    neither (suc k) less is ne not = not (k, omega (arith, less), is)

-- a rule that matches a text is one of the patterns'
pub rule_within : (m : Machine) (rule : ℕ) (x : List ℕ) → MatchesRule (patterns_of m) rule x → IsNumberOf (length m.patterns) rule
rule_within m rule x matches =
    let within = slice_get_within (patterns_of m) matches.index matches.pattern matches.at in
    (omega (arith, matches.number), omega (arith, matches.number, within, length-map m.patterns regex))

-- a number that is noted where none was is another one
noted_other : (entry n : ℕ) → entry ≡ 0 → noted entry (n + 1) ≡ entry → ⊥
noted_other zero n none e = omega (arith, e)
noted_other (suc k) n none e = absurd (cc)

-- the rules of a state are those of the patterns
pub first_within : (m : Machine) (t : StateText) → IsStateText m t → (n : ℕ) → n ≡ length m.patterns → (first : Option ℕ) → ((x : List ℕ) → StateOf m t.state x → IsFirstRule (patterns_of m) x first) → IfSome first (IsNumberOf n)
first_within m t is n many None lowest = tt
first_within m t is n many (Some rule) lowest =
    let N : ℕ → Type 0 = λ q. IsNumberOf q rule in
    subst N (sym many) (rule_within m rule t.text (lowest t.text is.stands).0)

pub rules_within : (m : Machine) (t : StateText) → IsStateText m t → (n : ℕ) → n ≡ length m.patterns → (rules : List ℕ) → ((x : List ℕ) → StateOf m t.state x → AreMatching (patterns_of m) x rules) → All (IsNumberOf n) rules
rules_within m t is n many rules lists_all = λ k d less.
    let N : ℕ → Type 0 = λ q. IsNumberOf q (slice_index_or rules k d) in
    subst N (sym many) (rule_within m (slice_index_or rules k d) t.text ((lists_all t.text is.stands).only (slice_index_or rules k d) (Contains-get_or rules k d less)))

module _ (m : Machine) (met : List StateText) (P : List ℕ → Type 0) (texts : List (Option (List ℕ))) (text : Option (List ℕ)) where
  -- what was kept still is
  still_kept : (q : ℕ) → IsKept met texts q → IsKept met (texts ++ text ∷ []) q
  still_kept q kept = ⊎_elim
      (λ (less : q + 1 < length texts). get_or_append_left texts (text ∷ []) None (q + 1) less ∙ kept)
      (λ (past : length texts ≤ q + 1). absurd (cc (sym (get_or_past texts (q + 1) None past) ∙ kept)))
      (cases_lt (q + 1) (length texts))

  lost_more : (n : ℕ) → ((q : ℕ) → q < n → IsLostAt m met P q) → IsLostAt m met P n → (q : ℕ) → q < n + 1 → IsLostAt m met P q
  lost_more n before here q less = ⊎_elim
      (λ (under : q < n). before q under)
      (λ (over : n ≤ q).
      let e : q ≡ n = omega (arith, over, less) in
      let Q : ℕ → Type 0 = λ k. IsLostAt m met P k in
      subst Q (sym e) here)
      (cases_lt q n)

  -- the texts of the place are not P
  pub first_still : (n entry : ℕ) → IsFirst m met P texts n entry → IsLostAt m met P n → IsFirst m met P (texts ++ text ∷ []) (n + 1) entry
  first_still n zero first lost = lost_more n first lost
  first_still n (suc k) first lost = (omega (arith, first.0), first.1, first.2, still_kept k first.3)

  -- they are
  first_noted_at : (n entry number : ℕ) → number ≡ suc n → IsFirst m met P texts n entry → IsWonAt m met P n → (entry ≡ 0 → IsKept met (texts ++ text ∷ []) n) → IsFirst m met P (texts ++ text ∷ []) (n + 1) (noted entry number)
  first_noted_at n zero zero is first won kept = absurd (omega (arith, is))
  first_noted_at n zero (suc k) is first won kept =
      let e : n ≡ k = omega (arith, is) in
      let Q : ℕ → Type 0 = λ q. IsFirst m met P (texts ++ text ∷ []) (n + 1) (suc q) in
      subst Q e (omega arith, won, first, kept refl)
  first_noted_at n (suc k) number is first won kept = (omega (arith, first.0), first.1, first.2, still_kept k first.3)

  pub first_noted : (n entry : ℕ) → IsFirst m met P texts n entry → IsWonAt m met P n → (entry ≡ 0 → IsKept met (texts ++ text ∷ []) n) → IsFirst m met P (texts ++ text ∷ []) (n + 1) (noted entry (n + 1))
  first_noted n entry first won kept = first_noted_at n entry (n + 1) (omega arith) first won kept

module _ (m : Machine) (met : List StateText) (s : AreStateTexts m met) (n : ℕ) (t : StateText) (at : slice_get met n ≡ Some t) (texts : List (Option (List ℕ))) (text : Option (List ℕ)) (all : length texts ≡ n + 1) where
  -- the text of the place is kept
  abbrev KeepsIt : Type 0
  KeepsIt = text ≡ Some ((entry_in met n).text)

  kept_now : KeepsIt → IsKept met (texts ++ text ∷ []) n
  kept_now is = get_or_push texts text None (n + 1) (omega (arith, all)) ∙ is

  -- what holds of the state of the place holds of what stands there
  here : (u : StateText) (x : List ℕ) → slice_get met n ≡ Some u → StateOf m u.state x → StateOf m t.state x
  here u x is stands =
      let same : u ≡ t = cc in
      let P : StateText → Type 0 = λ v. StateOf m v.state x in
      subst P same stands

  -- ---- the rule that wins

  module _ (wins new : List ℕ) (rules : length wins ≡ length m.patterns) (told : (new ≡ wins) ⊎ KeepsIt) where
    win_kept : (rule : ℕ) → slice_index new (rule - 1) ≡ noted (slice_index wins (rule - 1)) (n + 1) → slice_index wins (rule - 1) ≡ 0 → IsKept met (texts ++ text ∷ []) n
    win_kept rule is none = ⊎_elim
        (λ (same : new ≡ wins). absurd (noted_other (slice_index wins (rule - 1)) n none (sym is ∙ ap (λ l. slice_index l (rule - 1)) same)))
        (λ (has : KeepsIt). kept_now has)
        told

    lowest_some : (r : ℕ) → ((x : List ℕ) → StateOf m t.state x → IsFirstRule (patterns_of m) x (Some r)) → 0 < r
    lowest_some r low = let is = s.each n t at in (rule_within m r t.text (low t.text is.stands).0).0

    pub win_next : (first : Option ℕ) → ((x : List ℕ) → StateOf m t.state x → IsFirstRule (patterns_of m) x first) → NotesWin first (n + 1) wins new → (rule : ℕ) → IsNumberOf (length m.patterns) rule
        → IsFirst m met (Wins (patterns_of m) rule) texts n (slice_index wins (rule - 1)) → IsFirst m met (Wins (patterns_of m) rule) (texts ++ text ∷ []) (n + 1) (slice_index new (rule - 1))
    win_next None none notes rule number first =
        let lost : IsLostAt m met (Wins (patterns_of m) rule) n = λ u x is stands w. none x (here u x is stands) rule w.matches in
        let P : List ℕ → Type 0 = λ l. IsFirst m met (Wins (patterns_of m) rule) (texts ++ text ∷ []) (n + 1) (slice_index l (rule - 1)) in
        subst P (sym notes) (first_still m met (Wins (patterns_of m) rule) texts text n (slice_index wins (rule - 1)) first lost)
    win_next (Some r) lowest notes rule number first =
        let E : ℕ → Type 0 = λ e. IsFirst m met (Wins (patterns_of m) rule) (texts ++ text ∷ []) (n + 1) e in
        ⊎_elim
        (λ (same : rule ≡ r).
        let value = noted (slice_index wins (r - 1)) (n + 1) in
        let Q : ℕ → Type 0 = λ q. slice_index new (q - 1) ≡ noted (slice_index wins (q - 1)) (n + 1) in
        let by_r : Q r = ap (λ (l : List ℕ). slice_index l (r - 1)) notes ∙ get_or-set_same wins (r - 1) value 0 (omega (arith, number.0, number.1, rules, same)) in
        let is = subst Q (sym same) by_r in
        let W : ℕ → Type 0 = λ q. IsWonAt m met (Wins (patterns_of m) q) n in
        let won : W r = λ u x here_u stands.
        let low = lowest x (here u x here_u stands) in
        record { some = not_empty m met s n u x here_u stands; matches = low.0; lowest = low.1 } in
        subst E (sym is) (first_noted m met (Wins (patterns_of m) rule) texts text n (slice_index wins (rule - 1)) first (subst W (sym same) won) (win_kept rule is)))
        (λ (ne : rule ≡ r → ⊥).
        let from_1 = lowest_some r lowest in
        let value = noted (slice_index wins (r - 1)) (n + 1) in
        let is : slice_index new (rule - 1) ≡ slice_index wins (rule - 1) =
        ap (λ (l : List ℕ). slice_index l (rule - 1)) notes ∙ get_or-set_other wins (r - 1) (rule - 1) value 0 (λ e. ne (omega (arith, e, from_1, number.0))) in
        let lost : IsLostAt m met (Wins (patterns_of m) rule) n = λ u x here_u stands w.
        let low = lowest x (here u x here_u stands) in
        ne (omega (arith, w.lowest r low.0, low.1 rule w.matches)) in
        subst E (sym is) (first_still m met (Wins (patterns_of m) rule) texts text n (slice_index wins (rule - 1)) first lost))
        (cases_eq rule r)

  -- ---- the rules that overlap

  module _ (rules : List ℕ) (lists_all : (x : List ℕ) → StateOf m t.state x → AreMatching (patterns_of m) x rules) (rows new : List (List ℕ)) (are : AreRows (length m.patterns) rows) (notes : NotesRows (n + 1) rules rules rows new) where
    row_at : (l : List (List ℕ)) (k : ℕ) → k < length l → slice_get l k ≡ Some (slice_index_or l k [])
    row_at l k less = slice_get-get_or l k [] less

    pub still_rows : AreRows (length m.patterns) new
    still_rows = record { all = notes.same ∙ are.all; behind = behind }
      where
        behind : (place : ℕ) (row : List ℕ) → slice_get new place ≡ Some row → place + 1 + length row ≡ length m.patterns
        behind place row is =
            let within : place < length rows = omega (arith, slice_get_within new place row is, notes.same) in
            let before = row_at rows place within in
            let long = are.behind place (slice_index_or rows place []) before in
            ⊎_elim
            (λ (c : Contains rules (place + 1)). omega (arith, long, (notes.listed place (slice_index_or rows place []) row c before is).same))
            (λ (not : Contains rules (place + 1) → ⊥). are.behind place row (sym (notes.others place not) ∙ is))
            (is_in rules (place + 1))

    module _ (told : (new ≡ rows) ⊎ KeepsIt) (rule other : ℕ) (from_1 : 0 < rule) (ascend : rule < other) (within : other ≤ length m.patterns) where
      both_kept : number_in new rule other ≡ noted (number_in rows rule other) (n + 1) → number_in rows rule other ≡ 0 → IsKept met (texts ++ text ∷ []) n
      both_kept is none = ⊎_elim
          (λ (same : new ≡ rows). absurd (noted_other (number_in rows rule other) n none (sym is ∙ ap (λ l. number_in l rule other) same)))
          (λ (has : KeepsIt). kept_now has)
          told

      -- the rows of the rule before and behind
      here_row : (k : ℕ) → k + 1 ≡ rule → slice_get rows k ≡ Some (slice_index_or rows k [])
      here_row k is = row_at rows k (omega (arith, is, are.all, ascend, within))

      new_row : (k : ℕ) → k + 1 ≡ rule → slice_get new k ≡ Some (slice_index_or new k [])
      new_row k is = row_at new k (omega (arith, is, are.all, notes.same, ascend, within))

      rule_lost : (Contains rules rule → ⊥) → IsLostAt m met (Overlap (patterns_of m) rule other) n
      rule_lost not u x is stands o = not ((lists_all x (here u x is stands)).all rule o.matches)

      other_lost : (Contains rules other → ⊥) → IsLostAt m met (Overlap (patterns_of m) rule other) n
      other_lost not u x is stands o = not ((lists_all x (here u x is stands)).all other o.other_matches)

      both_won : Contains rules rule → Contains rules other → IsWonAt m met (Overlap (patterns_of m) rule other) n
      both_won c d u x is stands =
          let l = lists_all x (here u x is stands) in
          record { some = not_empty m met s n u x is stands; matches = l.only rule c; other_matches = l.only other d }

      -- the entry, by what the row of the rule became
      entry_at : (k j : ℕ) → k + 1 ≡ rule → k + 1 + 1 + j ≡ other → Contains rules rule
          → (Contains rules other → number_in new rule other ≡ noted (number_in rows rule other) (n + 1)) × ((Contains rules other → ⊥) → number_in new rule other ≡ number_in rows rule other)
      entry_at k j is to c =
          let K : ℕ → Type 0 = λ q. Contains rules q in
          let row = notes.listed k (slice_index_or rows k []) (slice_index_or new k []) (subst K (sym is) c) (here_row k is) (new_row k is) in
          let long = are.behind k (slice_index_or rows k []) (here_row k is) in
          let less : j < length (slice_index_or rows k []) = omega (arith, long, is, to, within) in
          let ek : rule - 1 ≡ k = omega (arith, is) in
          let ej : other - rule - 1 ≡ j = omega (arith, is, to) in
          let old_is : number_in rows rule other ≡ slice_index (slice_index_or rows k []) j = ap (λ q. slice_index (slice_index_or rows q []) (other - rule - 1)) ek ∙ ap (λ q. slice_index (slice_index_or rows k []) q) ej in
          let new_is : number_in new rule other ≡ slice_index (slice_index_or new k []) j = ap (λ q. slice_index (slice_index_or new q []) (other - rule - 1)) ek ∙ ap (λ q. slice_index (slice_index_or new k []) q) ej in (
            λ d. new_is ∙ row.listed j less (subst K (sym to) d) ∙ ap (λ e. noted e (n + 1)) (sym old_is),
            λ not. new_is ∙ row.others j less (λ d. not (subst K to d)) ∙ sym old_is,
          )

      pub both_next : IsFirst m met (Overlap (patterns_of m) rule other) texts n (number_in rows rule other) → IsFirst m met (Overlap (patterns_of m) rule other) (texts ++ text ∷ []) (n + 1) (number_in new rule other)
      both_next first =
          let E : ℕ → Type 0 = λ e. IsFirst m met (Overlap (patterns_of m) rule other) (texts ++ text ∷ []) (n + 1) e in
          ⊎_elim
          (λ (c : Contains rules rule).
          let entry = entry_at (rule - 1) (other - rule - 1) (omega (arith, from_1)) (omega (arith, from_1, ascend)) c in ⊎_elim
          (λ (d : Contains rules other).
          subst E (sym (entry.0 d)) (first_noted m met (Overlap (patterns_of m) rule other) texts text n (number_in rows rule other) first (both_won c d) (both_kept (entry.0 d))))
          (λ (not : Contains rules other → ⊥).
          subst E (sym (entry.1 not)) (first_still m met (Overlap (patterns_of m) rule other) texts text n (number_in rows rule other) first (other_lost not)))
          (is_in rules other))
          (λ (not : Contains rules rule → ⊥).
          let K : ℕ → Type 0 = λ q. Contains rules q in
          let back : rule - 1 + 1 ≡ rule = omega (arith, from_1) in
          let same = notes.others (rule - 1) (λ c. not (subst K back c)) in
          let row : slice_index_or new (rule - 1) [] ≡ slice_index_or rows (rule - 1) [] = cc (sym (new_row (rule - 1) back) ∙ same ∙ here_row (rule - 1) back) in
          let is : number_in new rule other ≡ number_in rows rule other = ap (λ r. slice_index r (other - rule - 1)) row in
          subst E (sym is) (first_still m met (Overlap (patterns_of m) rule other) texts text n (number_in rows rule other) first (rule_lost not)))
          (is_in rules rule)

  -- ---- all of it

  pub next : (wins new_wins : List ℕ) (rows new_rows : List (List ℕ)) (first : Option ℕ) (rules : List ℕ)
      → ((x : List ℕ) → StateOf m t.state x → IsFirstRule (patterns_of m) x first) → ((x : List ℕ) → StateOf m t.state x → AreMatching (patterns_of m) x rules)
      → NotesWin first (n + 1) wins new_wins → NotesRows (n + 1) rules rules rows new_rows
      → (new_wins ≡ wins) ⊎ KeepsIt → (new_rows ≡ rows) ⊎ KeepsIt → length new_wins ≡ length wins
      → AreNoted m met n wins rows texts → AreNoted m met (n + 1) new_wins new_rows (texts ++ text ∷ [])
  next wins new_wins rows new_rows first rules lowest lists_all win both won both_told same noted_so = record {
    kept = length-append texts (text ∷ []) ∙ omega (arith, all);
    none = get_or_append_left texts (text ∷ []) None 0 (omega (arith, all)) ∙ noted_so.none;
    rules = same ∙ noted_so.rules;
    are_rows = still_rows rules lists_all rows new_rows noted_so.are_rows both;
    wins_are = λ rule number. win_next wins new_wins noted_so.rules won first lowest win rule number (noted_so.wins_are rule number);
    both_are = λ rule other from_1 ascend within. both_next rules lists_all rows new_rows noted_so.are_rows both both_told rule other from_1 ascend within (noted_so.both_are rule other from_1 ascend within);
  }

-- ---- the beginning

zeros_at : (n i : ℕ) → slice_index (replicate n 0) i ≡ 0
zeros_at n i = ⊎_elim
    (λ (less : i < n). get_or-replicate n i 0 0 less)
    (λ (past : n ≤ i). get_or_past (replicate n 0) i 0 (omega (arith, past, length-replicate {A = ℕ} n 0)))
    (cases_lt i n)

blank_rows : (rules : ℕ) (rows : List (List ℕ)) → AreBlank rules rules rows → AreRows rules rows
blank_rows rules rows blank = record {
  all = blank.all;
  behind = λ place row is.
      let within = slice_get_within rows place row is in
      omega (arith, within, blank.all, ap (λ (l : List ℕ). length l) (blank.each place row is), length-replicate {A = ℕ} (rules - place - 1) 0);
}

blank_at : (rules : ℕ) (rows : List (List ℕ)) → AreBlank rules rules rows → (rule other : ℕ) → number_in rows rule other ≡ 0
blank_at rules rows blank rule other = ⊎_elim
    (λ (less : rule - 1 < length rows).
    let is = blank.each (rule - 1) (slice_index_or rows (rule - 1) []) (slice_get-get_or rows (rule - 1) [] less) in
    ap (λ (l : List ℕ). slice_index l (other - rule - 1)) is ∙ zeros_at (rules - (rule - 1) - 1) (other - rule - 1))
    (λ (past : length rows ≤ rule - 1). ap (λ (l : List ℕ). slice_index l (other - rule - 1)) (get_or_past rows (rule - 1) [] past) ∙ get_or_past [] (other - rule - 1) 0 (omega arith))
    (cases_lt (rule - 1) (length rows))

pub noted_first : (m : Machine) (met : List StateText) (rules : ℕ) (wins : List ℕ) (rows : List (List ℕ)) → rules ≡ length m.patterns → wins ≡ replicate rules 0 → AreBlank rules rules rows → AreNoted m met 0 wins rows (None ∷ [])
noted_first m met rules wins rows many zeros blank = record {
  kept = refl;
  none = refl;
  rules = ap (λ (l : List ℕ). length l) zeros ∙ length-replicate {A = ℕ} rules 0 ∙ many;
  are_rows = let R : ℕ → Type 0 = λ n. AreRows n rows in subst R many (blank_rows rules rows blank);
  wins_are = λ rule number. first_of_none (Wins (patterns_of m) rule) (slice_index wins (rule - 1)) (ap (λ (l : List ℕ). slice_index l (rule - 1)) zeros ∙ zeros_at rules (rule - 1));
  both_are = λ rule other from_1 ascend within. first_of_none (Overlap (patterns_of m) rule other) (number_in rows rule other) (blank_at rules rows blank rule other);
}
  where
    first_of_none : (P : List ℕ → Type 0) (entry : ℕ) → entry ≡ 0 → IsFirst m met P (None ∷ []) 0 entry
    first_of_none P entry is =
        let E : ℕ → Type 0 = λ e. IsFirst m met P (None ∷ []) 0 e in
        subst E (sym is) (λ q less. absurd (omega (arith, less)))

-- ---- the end

module _ (m : Machine) (met : List StateText) (s : AreStateTexts m met) (wins : List ℕ) (rows : List (List ℕ)) (texts : List (Option (List ℕ))) (are : AreNoted m met (length met) wins rows texts) where
  patterns : length (patterns_of m) ≡ length m.patterns
  patterns = length-map m.patterns regex

  long_row : (place : ℕ) (row : List (Option (List ℕ))) → slice_get (map (named texts) rows) place ≡ Some row → place + 1 + length row ≡ length (patterns_of m)
  long_row place row is =
      let within : place < length rows = omega (arith, slice_get_within (map (named texts) rows) place row is, length-map rows (named texts)) in
      let before = slice_get-get_or rows place [] within in
      let long = are.are_rows.behind place (slice_index_or rows place []) before in
      let e : Some row ≡ Some (named texts (slice_index_or rows place [])) = sym is ∙ slice_get-map (named texts) rows place ∙ ap (option_map (named texts)) before in
      let row_is : row ≡ named texts (slice_index_or rows place []) = cc in
      omega (arith, ap (λ (l : List (Option (List ℕ))). length l) row_is, length-map (slice_index_or rows place []) (λ n. slice_index_or texts n None), long, patterns)

  both_entry : (rule other : ℕ) → 0 < rule → rule < other → other ≤ length m.patterns → slice_index_or (slice_index_or (map (named texts) rows) (rule - 1) []) (other - rule - 1) None ≡ slice_index_or texts (number_in rows rule other) None
  both_entry rule other from_1 ascend within =
      let inside : rule - 1 < length rows = omega (arith, from_1, ascend, within, are.are_rows.all) in
      let row : slice_index_or (map (named texts) rows) (rule - 1) [] ≡ named texts (slice_index_or rows (rule - 1) []) = get_or-map (named texts) rows (rule - 1) [] [] inside in
      let long = are.are_rows.behind (rule - 1) (slice_index_or rows (rule - 1) []) (slice_get-get_or rows (rule - 1) [] inside) in
      ap (λ (l : List (Option (List ℕ))). slice_index_or l (other - rule - 1) None) row
      ∙ get_or-map (λ n. slice_index_or texts n None) (slice_index_or rows (rule - 1) []) (other - rule - 1) 0 None (omega (arith, long, from_1, ascend, within))

  pub noted_all : AreLeastTexts (patterns_of m) (least_of wins rows texts)
  noted_all = record {
    rules = length-map wins (λ n. slice_index_or texts n None) ∙ are.rules ∙ sym patterns;
    wins = λ rule number.
        let inside : rule - 1 < length wins = omega (arith, number.0, number.1, are.rules, patterns) in
        let is : slice_index_or (named texts wins) (rule - 1) None ≡ slice_index_or texts (slice_index wins (rule - 1)) None = get_or-map (λ n. slice_index_or texts n None) wins (rule - 1) 0 None inside in
        let L : Option (List ℕ) → Type 0 = λ e. IsLeastIfAny (Wins (patterns_of m) rule) e in
        subst L (sym is) (first_is_least m met s (Wins (patterns_of m) rule) (λ x w. begun (patterns_of m) rule x w.matches) (λ x w. w.some) texts are.none (slice_index wins (rule - 1)) (are.wins_are rule (number.0, omega (arith, number.1, patterns))));
    rows = length-map rows (named texts) ∙ are.are_rows.all ∙ sym patterns;
    behind = long_row;
    overlaps = λ rule other from_1 ascend within.
        let L : Option (List ℕ) → Type 0 = λ e. IsLeastIfAny (Overlap (patterns_of m) rule other) e in
        let fits : other ≤ length m.patterns = omega (arith, within, patterns) in
        subst L (sym (both_entry rule other from_1 ascend fits)) (first_is_least m met s (Overlap (patterns_of m) rule other) (λ x o. begun (patterns_of m) rule x o.matches) (λ x o. o.some) texts are.none (number_in rows rule other) (are.both_are rule other from_1 ascend fits));
  }
