-- The names of a file: each word of a rule has a number, and all names differ.
use Rattle.std.proofs.Common.{◌≡◌, ◌≢◌, suc, ◌≤◌, Bool, true, false, cond, List, [], ◌∷◌, ◌++◌, map, length, refl, sym, ap, ◌∙◌, arith, one-add, Option, Some, None}
use Rattle.std.specs.Prelude.{filter, not, ◌&&◌}
use Rattle.std.specs.List.{All, AllPairs, flat_map}
use Rattle.std.proofs.lemmas.Bool.{false≢true}
use Rattle.std.proofs.lemmas.List.Elements.{All-nil, All-cons, All-head, All-tail, All-append, All-weaker, All-map, All-filter}
use Rattle.std.proofs.lemmas.List.Kept.{AllPairs-cons, AllPairs-filter}
use Rattle.cs_yacc.specs.declared.reading.name.TokenName.{TokenName}
use Rattle.cs_yacc.specs.declared.reading.name.TokenName.TheVariants.{Word, Byte}
use Rattle.cs_yacc.specs.Items.Items.{Item, name, literal, colon, bar, Placed, items_of}
use Rattle.cs_yacc.specs.Reading.Meaning.{same_spelling, has_spelling, distinct, number_in, bytes_of, left_at, left_sides, nonterminals, spelled, used, is_in_use, tokens, body, bodies, SpelledRule, rules_of, rules_at, rules, is_kept, kept, has_meaning, with_meaning_behind, with_meaning, tokens_of, begins_with_colon}
use Rattle.cs_yacc.proofs.OnReading.Gathering.{same_is, same_self, has_distinct}

-- ---- words in a list

abbrev pub IsIn : List TokenName → TokenName → Type 0
IsIn ws w = has_spelling ws w ≡ true

in_more_step : (b : Bool) (v w : TokenName) (ws : List TokenName) → same_spelling w v ≡ b → IsIn ws w → IsIn (v ∷ ws) w
in_more_step true v w ws e h = rw e refl
in_more_step false v w ws e h = rw e h

in_more : (v w : TokenName) (ws : List TokenName) → IsIn ws w → IsIn (v ∷ ws) w
in_more v w ws h = in_more_step (same_spelling w v) v w ws refl h

-- a list has its words
has_self : (ws : List TokenName) → All (IsIn ws) ws
has_self [] = All-nil (IsIn [])
has_self (w ∷ ws) = All-cons (IsIn (w ∷ ws)) w ws (rw (same_self w) refl) (All-weaker (IsIn ws) (IsIn (w ∷ ws)) (λ v h. in_more w v ws h) ws (has_self ws))

number_step : (b : Bool) (w v : TokenName) (ws : List TokenName) → same_spelling w v ≡ b → IsIn (v ∷ ws) w → (IsIn ws w → number_in ws w ≤ length ws) → number_in (v ∷ ws) w ≤ suc (length ws)
number_step true w v ws e h rest = rw e (omega arith)
number_step false w v ws e h rest = let tail : IsIn ws w = rw e at h in rw (e, one-add) (omega (arith, rest tail))

-- a word of a list has a number among them
pub number_within : (ws : List TokenName) (w : TokenName) → IsIn ws w → number_in ws w ≤ length ws
number_within [] w h = absurd (false≢true h)
number_within (v ∷ ws) w h = number_step (same_spelling w v) w v ws refl h (number_within ws w)

-- a word that passes a test is among those that pass
filter_step : (p : TokenName → Bool) (v w : TokenName) (ws : List TokenName) (b : Bool) → p v ≡ b → p w ≡ true → IsIn (v ∷ ws) w → (IsIn ws w → IsIn (filter p ws) w) → IsIn (cond b (v ∷ filter p ws) (filter p ws)) w
filter_step p v w ws b e passes h rest = by_same (same_spelling w v) refl b e
  where
    by_same : (s : Bool) → same_spelling w v ≡ s → (b : Bool) → p v ≡ b → IsIn (cond b (v ∷ filter p ws) (filter p ws)) w
    by_same true f true e = rw f refl
    by_same true f false e = let g : w ≡ v = same_is w v f in absurd (false≢true (sym e ∙ ap p (sym g) ∙ passes))
    by_same false f true e = let tail : IsIn ws w = rw f at h in rw f (rest tail)
    by_same false f false e = let tail : IsIn ws w = rw f at h in rest tail

in_filter : (p : TokenName → Bool) (w : TokenName) (ws : List TokenName) → p w ≡ true → IsIn ws w → IsIn (filter p ws) w
in_filter p w [] passes h = h
in_filter p w (v ∷ ws) passes h = filter_step p v w ws (p v) refl passes h (in_filter p w ws passes)

-- ---- distinct words

abbrev pub Differ : TokenName → TokenName → Type 0
Differ a b = a ≢ b

not_filtered : (w : TokenName) (ws : List TokenName) → All (Differ w) (filter (λ v. not (same_spelling w v)) ws)
not_filtered w [] = All-nil (Differ w)
not_filtered w (v ∷ ws) = step (same_spelling w v) refl (not_filtered w ws)
  where
    step : (b : Bool) → same_spelling w v ≡ b → All (Differ w) (filter (λ v. not (same_spelling w v)) ws) → All (Differ w) (cond (not b) (v ∷ filter (λ v. not (same_spelling w v)) ws) (filter (λ v. not (same_spelling w v)) ws))
    step true e h = h
    step false e h = All-cons (Differ w) v (filter (λ v. not (same_spelling w v)) ws) (λ f. false≢true (sym e ∙ rw f (same_self v))) h

pub distinct_differ : (ws : List TokenName) → AllPairs Differ (distinct ws)
distinct_differ [] = λ i j d lt within. absurd (omega arith)
distinct_differ (w ∷ ws) =
    AllPairs-cons Differ w (filter (λ v. not (same_spelling w v)) (distinct ws)) (not_filtered w (distinct ws)) (AllPairs-filter Differ (λ v. not (same_spelling w v)) (distinct ws) (distinct_differ ws))

pub pairs_tail : (w : TokenName) (ws : List TokenName) → AllPairs Differ (w ∷ ws) → AllPairs Differ ws
pairs_tail w ws h = λ i j d lt within. h (suc i) (suc j) d (omega arith) (omega arith)

pub pairs_head : (w : TokenName) (ws : List TokenName) → AllPairs Differ (w ∷ ws) → All (Differ w) ws
pairs_head w ws h = λ k d lt. h 0 (suc k) d (omega arith) (omega arith)

-- two lists of words that differ, of which one holds what the other doesn't
differ_append : (vs ws : List TokenName) → AllPairs Differ vs → AllPairs Differ ws → All (λ v. All (Differ v) ws) vs → AllPairs Differ (vs ++ ws)
differ_append [] ws a b apart = b
differ_append (v ∷ vs) ws a b apart =
    let here : All (Differ v) (vs ++ ws) = All-append (Differ v) vs ws (pairs_head v vs a) (All-head (λ v. All (Differ v) ws) v vs apart) in
    AllPairs-cons Differ v (vs ++ ws) here (differ_append vs ws (pairs_tail v vs a) b (All-tail (λ v. All (Differ v) ws) v vs apart))

All-distinct : (P : TokenName → Type 0) (ws : List TokenName) → All P ws → All P (distinct ws)
All-distinct P [] h = h
All-distinct P (w ∷ ws) h =
    All-cons P w (filter (λ v. not (same_spelling w v)) (distinct ws)) (All-head P w ws h) (All-filter (λ v. not (same_spelling w v)) P (distinct ws) (All-distinct P ws (All-tail P w ws h)))

passes_all : (p : TokenName → Bool) (ws : List TokenName) → All (λ w. p w ≡ true) (filter p ws)
passes_all p [] = All-nil (λ w. p w ≡ true)
passes_all p (w ∷ ws) = step (p w) refl (passes_all p ws)
  where
    step : (b : Bool) → p w ≡ b → All (λ w. p w ≡ true) (filter p ws) → All (λ w. p w ≡ true) (cond b (w ∷ filter p ws) (filter p ws))
    step true e h = All-cons (λ w. p w ≡ true) w (filter p ws) e h
    step false e h = h

-- ---- the left sides are names

abbrev IsNamed : TokenName → Type 0
IsNamed w = Word (bytes_of w) ≡ w

named_at : (i : Item) (r : List Item) → All IsNamed (left_at i r)
named_at (name n) r = by_colon (begins_with_colon r)
  where
    by_colon : (b : Bool) → All IsNamed (cond b (Word n ∷ []) [])
    by_colon true = All-cons IsNamed (Word n) [] refl (All-nil IsNamed)
    by_colon false = All-nil IsNamed
named_at i r = All-nil IsNamed

lefts_named : (items : List Item) → All IsNamed (left_sides items)
lefts_named [] = All-nil IsNamed
lefts_named (i ∷ items) = All-append IsNamed (left_at i items) (left_sides items) (named_at i items) (lefts_named items)

words_back : (ws : List TokenName) → All IsNamed ws → map Word (map bytes_of ws) ≡ ws
words_back [] h = refl
words_back (w ∷ ws) h = rw (All-head IsNamed w ws h, words_back ws (All-tail IsNamed w ws h)) refl

and-right : (a b : Bool) → (a && b) ≡ true → b ≡ true
and-right true b h = h
and-right false b h = absurd (false≢true h)

not-back : (b : Bool) → not b ≡ true → b ≡ false
not-back true h = absurd (false≢true h)
not-back false h = refl

-- ---- all names differ

pub names_differ : (used : List TokenName) (all items : List Item) → AllPairs (λ a b. a ≢ b) (tokens used (nonterminals items) all ++ map Word (map bytes_of (nonterminals items)))
names_differ used all items =
    let ns = nonterminals items in
    let ts = filter (is_in_use used ns) (spelled all) in
    let named : map Word (map bytes_of ns) ≡ ns = words_back ns (All-distinct IsNamed (left_sides items) (lefts_named items)) in
    let apart : (w : TokenName) → is_in_use used ns w ≡ true → All (Differ w) ns = λ w in_use.
    let none : has_spelling ns w ≡ false = not-back (has_spelling ns w) (and-right (has_spelling used w) (not (has_spelling ns w)) in_use) in
    All-weaker (IsIn ns) (Differ w) (λ v there same. false≢true (sym none ∙ ap (has_spelling ns) same ∙ there)) ns (has_self ns) in
    let every : All (λ w. All (Differ w) ns) (distinct ts) =
    All-weaker (λ w. is_in_use used ns w ≡ true) (λ w. All (Differ w) ns) apart (distinct ts) (All-distinct (λ w. is_in_use used ns w ≡ true) ts (passes_all (is_in_use used ns) (spelled all))) in
    rw named (differ_append (distinct ts) ns (distinct_differ ts) (distinct_differ (left_sides items)) every)

-- ---- each word of a rule is known

module _ (P : TokenName → Type 0) where
  body_spelled : (items : List Item) → All P (spelled items) → All P (body items)
  body_spelled [] h = h
  body_spelled (name n ∷ items) h = by_colon (begins_with_colon items) (body_spelled items (All-tail P (Word n) (spelled items) h))
    where
      by_colon : (b : Bool) → All P (body items) → All P (cond b [] (Word n ∷ body items))
      by_colon true g = All-nil P
      by_colon false g = All-cons P (Word n) (body items) (All-head P (Word n) (spelled items) h) g
  body_spelled (literal b ∷ items) h = All-cons P (Byte b) (body items) (All-head P (Byte b) (spelled items) h) (body_spelled items (All-tail P (Byte b) (spelled items) h))
  body_spelled (i ∷ items) h = All-nil P

  pub spelled_tail : (i : Item) (items : List Item) → All P (spelled (i ∷ items)) → All P (spelled items)
  spelled_tail (name n) items h = All-tail P (Word n) (spelled items) h
  spelled_tail (literal b) items h = All-tail P (Byte b) (spelled items) h
  spelled_tail i items h = h

  bodies_spelled : (items : List Item) → All P (spelled items) → All (All P) (bodies items)
  bodies_spelled [] h = All-nil (All P)
  bodies_spelled (name n ∷ items) h = by_colon (begins_with_colon items) (bodies_spelled items (All-tail P (Word n) (spelled items) h))
    where
      by_colon : (b : Bool) → All (All P) (bodies items) → All (All P) (cond b [] (bodies items))
      by_colon true g = All-nil (All P)
      by_colon false g = g
  bodies_spelled (literal b ∷ items) h = bodies_spelled items (All-tail P (Byte b) (spelled items) h)
  bodies_spelled (colon ∷ items) h = All-cons (All P) (body items) (bodies items) (body_spelled items h) (bodies_spelled items h)
  bodies_spelled (bar ∷ items) h = All-cons (All P) (body items) (bodies items) (body_spelled items h) (bodies_spelled items h)
  bodies_spelled (i ∷ items) h = bodies_spelled items h

  abbrev HasRight : SpelledRule → Type 0
  HasRight r = All P r.right

  rights_at : (i : Item) (items : List Item) → All P (spelled items) → All HasRight (rules_at i items)
  rights_at (name n) items h = by_colon (begins_with_colon items)
    where
      by_colon : (b : Bool) → All HasRight (cond b (rules_of (Word n) (bodies items)) [])
      by_colon true = All-map HasRight (λ right. record { left = Word n; right = right }) (bodies items) (bodies_spelled items h)
      by_colon false = All-nil HasRight
  rights_at i items h = All-nil HasRight

  rights_spelled : (items : List Item) → All P (spelled items) → All (λ (r : SpelledRule). All P r.right) (rules items)
  rights_spelled [] h = All-nil HasRight
  rights_spelled (i ∷ items) h =
      let rest : All P (spelled items) = spelled_tail i items h in
      All-append HasRight (rules_at i items) (rules items) (rights_at i items rest) (rights_spelled items rest)

  abbrev HasLeft : SpelledRule → Type 0
  HasLeft r = P r.left

  all_left : (w : TokenName) (bs : List (List TokenName)) → P w → All HasLeft (rules_of w bs)
  all_left w bs h = All-map HasLeft (λ right. record { left = w; right = right }) bs (λ k d lt. h)

  lefts_of : (items : List Item) → All P (left_sides items) → All (λ (r : SpelledRule). P r.left) (rules items)
  lefts_of [] h = All-nil HasLeft
  lefts_of (name n ∷ items) h = by_colon (begins_with_colon items) h (λ g. lefts_of items g)
    where
      by_colon : (b : Bool) → All P (cond b (Word n ∷ []) [] ++ left_sides items) → (All P (left_sides items) → All HasLeft (rules items)) → All HasLeft (cond b (rules_of (Word n) (bodies items)) [] ++ rules items)
      by_colon true g rest = All-append HasLeft (rules_of (Word n) (bodies items)) (rules items) (all_left (Word n) (bodies items) (All-head P (Word n) (left_sides items) g)) (rest (All-tail P (Word n) (left_sides items) g))
      by_colon false g rest = rest g
  lefts_of (i ∷ items) h = lefts_of items h

  rights_of : (rs : List SpelledRule) → All P (flat_map (λ (r : SpelledRule). r.right) rs) → All (λ (r : SpelledRule). All P r.right) rs
  rights_of [] h = All-nil HasRight
  rights_of (r ∷ rs) h =
      All-cons HasRight r rs (front r.right h) (rights_of rs (back r.right h))
    where
      front : (ws : List TokenName) → All P (ws ++ flat_map (λ (r : SpelledRule). r.right) rs) → All P ws
      front [] g = All-nil P
      front (w ∷ ws) g = All-cons P w ws (All-head P w (ws ++ flat_map (λ (r : SpelledRule). r.right) rs) g) (front ws (All-tail P w (ws ++ flat_map (λ (r : SpelledRule). r.right) rs) g))

      back : (ws : List TokenName) → All P (ws ++ flat_map (λ (r : SpelledRule). r.right) rs) → All P (flat_map (λ (r : SpelledRule). r.right) rs)
      back [] g = g
      back (w ∷ ws) g = back ws (All-tail P w (ws ++ flat_map (λ (r : SpelledRule). r.right) rs) g)

  -- the items with a meaning spell what all items spell
  with_meaning_spelled : (before : Option Item) (ps : List Placed) → All P (spelled (items_of ps)) → All P (spelled (items_of (with_meaning_behind before ps)))
  with_meaning_spelled before [] h = All-nil P
  with_meaning_spelled before (p ∷ ps) h = by_test (has_meaning before p.item) (with_meaning_spelled (Some p.item) ps (spelled_tail p.item (items_of ps) h))
    where
      rest : List Placed
      rest = with_meaning_behind (Some p.item) ps

      by_test : (t : Bool) → All P (spelled (items_of rest)) → All P (spelled (items_of (cond t (p ∷ []) [] ++ rest)))
      by_test true g = both p.item h g
        where
          both : (i : Item) → All P (spelled (i ∷ items_of ps)) → All P (spelled (items_of rest)) → All P (spelled (i ∷ items_of rest))
          both (name n) h g = All-cons P (Word n) (spelled (items_of rest)) (All-head P (Word n) (spelled (items_of ps)) h) g
          both (literal b) h g = All-cons P (Byte b) (spelled (items_of rest)) (All-head P (Byte b) (spelled (items_of ps)) h) g
          both i h g = g
      by_test false g = g

-- the spellings of the items with a meaning are among those of all
pub meant_are_spelled : (all : List Placed) → All (IsIn (distinct (spelled (items_of all)))) (spelled (items_of (with_meaning all)))
meant_are_spelled all =
    let there = spelled (items_of all) in
    All-weaker (IsIn there) (IsIn (distinct there)) (λ w h. has_distinct there w ∙ h) (spelled (items_of (with_meaning all))) (with_meaning_spelled (IsIn there) None all (has_self there))

-- a kept rule's left side is a nonterminal
pub lefts_known : (items : List Item) → All (λ (r : SpelledRule). IsIn (nonterminals items) r.left) (kept items)
lefts_known items =
    All-filter is_kept (λ (r : SpelledRule). IsIn (nonterminals items) r.left) (rules items)
    (lefts_of (IsIn (nonterminals items)) items (All-weaker (IsIn (left_sides items)) (IsIn (nonterminals items)) (λ w h. has_distinct (left_sides items) w ∙ h) (left_sides items) (has_self (left_sides items))))

-- a word of a kept rule that is no nonterminal is a token
pub rights_known : (all : List Placed) → All (λ (r : SpelledRule). All (λ w. has_spelling (nonterminals (items_of (with_meaning all))) w ≡ false → IsIn (tokens_of all (with_meaning all)) w) r.right) (kept (items_of (with_meaning all)))
rights_known all =
    let items = items_of (with_meaning all) in
    let there = spelled (items_of all) in
    let in_text = All-filter is_kept (λ (r : SpelledRule). All (IsIn there) r.right) (rules items) (rights_spelled (IsIn there) items (with_meaning_spelled (IsIn there) None all (has_self there))) in
    let words = flat_map (λ (r : SpelledRule). r.right) (kept items) in
    let in_rules = rights_of (IsIn words) (kept items) (has_self words) in
    λ k d lt j e le. λ none. known _ (in_text k d lt j e le) (in_rules k d lt j e le) none
  where
    known : (w : TokenName) → IsIn (spelled (items_of all)) w → IsIn (flat_map (λ (r : SpelledRule). r.right) (kept (items_of (with_meaning all)))) w → has_spelling (nonterminals (items_of (with_meaning all))) w ≡ false → IsIn (tokens_of all (with_meaning all)) w
    known w there in_rule none =
        let items = items_of (with_meaning all) in
        let is_used : has_spelling (used (kept items)) w ≡ true = has_distinct (flat_map (λ (r : SpelledRule). r.right) (kept items)) w ∙ in_rule in
        let in_use : is_in_use (used (kept items)) (nonterminals items) w ≡ true = rw (is_used, none) refl in
        has_distinct (filter (is_in_use (used (kept items)) (nonterminals items)) (spelled (items_of all))) w ∙ in_filter (is_in_use (used (kept items)) (nonterminals items)) w (spelled (items_of all)) in_use there
