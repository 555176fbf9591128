-- From the tables to what the reader answers.
use Rattle.std.proofs.Common.{◌≡◌, ◌≤◌, ℕ, Bool, true, false, cond, List, [], ◌∷◌, length, refl, sym, ap, subst, ◌∙◌, ◌⊎◌, inl, inr, arith}
use Rattle.std.specs.Prelude.{Option, Some, None, Result, Ok, Err, nat_lt, option_map, filter}
use Rattle.std.specs.Option.{option_or}
use Rattle.cs_yacc.specs.declared.items.item.Placed as held
use Rattle.cs_yacc.specs.declared.reading.name.TokenName.{TokenName}
use Rattle.cs_yacc.specs.declared.reading.error.YaccLimit.{YaccLimit}
use Rattle.cs_yacc.specs.declared.reading.error.YaccLimit.TheVariants.{Tokens, Nonterminals, Rules, RightSide}
use Rattle.cs_yacc.specs.declared.reading.error.YaccError.{YaccError}
use Rattle.cs_yacc.specs.declared.reading.error.YaccError.TheVariants.{BadItem, Unended, UnknownDirective, Syntax, SecondStart, TokenOnLeft, Undefined, StartNotNonterminal, Limit, Memory}
use Rattle.cs_yacc.specs.Items.Items.{Placed, items_of, Reads}
use Rattle.cs_yacc.specs.Items.Table.{declarations, IsTaken, IsStuck}
use Rattle.cs_yacc.proofs.OnItems.Stuck.{stuck_at, stuck_from_some, taken_from_none}
use Rattle.cs_yacc.specs.Reading.File.{File, IsFile}
use Rattle.cs_yacc.specs.Reading.Meaning.{declared_tokens, SpelledRule, kept, used, nonterminals, distinct, spelled, is_in_use, tokens_of, with_meaning, start_item, wrong_start, file_with, behind_start, is_token_on_left, behind_mark, first_at, first_start, first_undefined, name_fault, above, long_right, limit_passed, unless, Parts, parts_of, file_or_limit, outcome}
use Rattle.cs_yacc.specs.Reading.Reading.{IsYaccFile, Refuses, Answers, IsAccepted, IsRefused}
use Rattle.cs_yacc.specs.Reading.Finding.{IsGiven, fault_behind_start, left_parts}
use Rattle.cs_yacc.specs.Reading.Errors.{error_of}
use Rattle.cs_yacc.specs.Items.Stops.{AnswersItems, StopsFor, IsRead, IsStopped}
use Rattle.cs_yacc.specs.declared.items.error.ItemsError as item_errors
use Rattle.cs_yacc.specs.declared.items.error.ItemsError.TheVariants as stops
use Rattle.cs_yacc.specs.Items.Views.{placed_of, placed_all}
use Rattle.std.proofs.lemmas.List.{length-map}
use Rattle.cs_yacc.proofs.OnReading.Counts.{few_with_meaning_of, few_held}
use Rattle.cs_yacc.proofs.OnReading.Fits.{file_fits}
use Rattle.cs_yacc.proofs.OnReading.Gathering.{distinct-filter-distinct}

-- what is given may be answered
is_given : (r given : Result File YaccError) → given ≡ r → IsGiven r given
is_given (Err Memory) given e = tt
is_given r given e = e

-- ---- the parts are those of the items

abbrev parts_with : List TokenName → List TokenName → List Placed → List SpelledRule → Parts
parts_with t n s r = record { tokens = t; nonterminals = n; start = s; rules = r }

by_fields : (t : List TokenName) (u : List TokenName) (n : List TokenName) (m : List TokenName) (s q : List Placed) (r k : List SpelledRule) → t ≡ u → n ≡ m → s ≡ q → r ≡ k → parts_with t n s r ≡ parts_with u m q k
by_fields t u n m s q r k a b c d = rw (a, b, c, d) refl

-- the code's parts are those that these make
pub left_same : (words : List TokenName) (start items : List Placed) (p : Parts) (used_table : List TokenName) → p.rules ≡ kept (items_of items) → used_table ≡ used p.rules → p.nonterminals ≡ nonterminals (items_of items)
    → p.tokens ≡ distinct (filter (is_in_use used_table p.nonterminals) words) → p.start ≡ start → p ≡ left_parts words start items
left_same words start items p used_table r u l t b =
    let same : p.tokens ≡ distinct (filter (is_in_use (used (kept (items_of items))) (nonterminals (items_of items))) words) = t ∙ rw (u, r, l) refl in
    by_fields p.tokens _ p.nonterminals (nonterminals (items_of items)) p.start start p.rules (kept (items_of items)) same l b r

-- and those of all items
pub parts_same : (all items start : List Placed) (words : List TokenName) → words ≡ distinct (spelled (items_of all)) → start ≡ start_item all → left_parts words start items ≡ parts_of all items
parts_same all items start words w s =
    let n : List TokenName = nonterminals (items_of items) in
    let k : List SpelledRule = kept (items_of items) in
    let same : distinct (filter (is_in_use (used k) n) words) ≡ tokens_of all items = rw w (distinct-filter-distinct (is_in_use (used k) n) (spelled (items_of all))) in
    by_fields _ (tokens_of all items) n n start (start_item all) k k same refl s refl

pub parts_fit : (all items : List Placed) (lefts : List TokenName) → items ≡ with_meaning all → lefts ≡ nonterminals (items_of items) → IsTaken (items_of all) → wrong_start lefts (start_item all) ≡ None
    → limit_passed (parts_of all items) ≡ None → IsFile (file_with (parts_of all items))
parts_fit all items lefts i l taken started none =
    let first : wrong_start (nonterminals (items_of (with_meaning all))) (start_item all) ≡ None = rw (l, i) at started in
    let whole : limit_passed (parts_of all (with_meaning all)) ≡ None = rw i at none in
    rw i (file_fits all taken first whole)

pub left_fit : (all items start : List Placed) (words lefts : List TokenName) → words ≡ distinct (spelled (items_of all)) → start ≡ start_item all → items ≡ with_meaning all → lefts ≡ nonterminals (items_of items) → IsTaken (items_of all)
    → wrong_start lefts (start_item all) ≡ None → limit_passed (left_parts words start items) ≡ None → IsFile (file_with (left_parts words start items))
left_fit all items start words lefts w s i l taken started =
    subst (λ p. limit_passed p ≡ None → IsFile (file_with p)) (sym (parts_same all items start words w s)) (λ none. parts_fit all items lefts i l taken started none)

-- the items with a meaning are no more than all
pub few_with_meaning : (all items : List held.Placed) → placed_all items ≡ with_meaning (placed_all all) → length (items_of (placed_all items)) ≤ length all
few_with_meaning all items e = omega (arith, few_held items, few_held all, few_with_meaning_of (placed_all all), ap length e, few_placed all, few_placed items)
  where
    few_placed : (xs : List held.Placed) → length (placed_all xs) ≡ length xs
    few_placed xs = length-map xs placed_of

-- ---- faults of names

module _ (all items : List Placed) (ds ls : List TokenName) (i : items ≡ with_meaning all) (d : ds ≡ declared_tokens (items_of items)) (l : ls ≡ nonterminals (items_of items)) where
  fault_same : name_fault all items ds ls ≡ name_fault all (with_meaning all) (declared_tokens (items_of (with_meaning all))) (nonterminals (items_of (with_meaning all)))
  fault_same = rw (d, l, i) refl

  pub gives_fault : (e : YaccError) → Some e ≡ name_fault all items ds ls → IsGiven (Err e) (outcome all)
  gives_fault e found = let f : name_fault all (with_meaning all) (declared_tokens (items_of (with_meaning all))) (nonterminals (items_of (with_meaning all))) ≡ Some e = sym (found ∙ fault_same) in is_given (Err e) (outcome all) (rw f refl)

  pub gives_rest : (r : Result File YaccError) → None ≡ name_fault all items ds ls → IsGiven r (file_or_limit (parts_of all items)) → IsGiven r (outcome all)
  gives_rest r none g =
      let f : name_fault all (with_meaning all) (declared_tokens (items_of (with_meaning all))) (nonterminals (items_of (with_meaning all))) ≡ None = sym (none ∙ fault_same) in
      let h : file_or_limit (parts_of all items) ≡ outcome all = rw (f, i) refl in
      subst (IsGiven r) h g

-- what is told of the items with a meaning and of the item that names the start symbol, where `%start` stands once at the most
pub name_fault_behind : (all items start : List Placed) (ds ls : List TokenName) → None ≡ first_start (behind_start all) → start ≡ start_item all → fault_behind_start start items ds ls ≡ name_fault all items ds ls
name_fault_behind all items start ds ls once s = rw (← once, s) refl

pub gives_second_start : (all : List Placed) (at : ℕ) → Some at ≡ first_start (behind_start all) → IsGiven (Err (SecondStart at)) (outcome all)
gives_second_start all at found = is_given (Err (SecondStart at)) (outcome all) (rw (← found) refl)

second_none : {A : Type 0} (o p : Option A) → option_or o p ≡ None → p ≡ None
second_none None p e = e
second_none (Some x) p e = absurd cc

map_none : (f : ℕ → YaccError) (o : Option ℕ) → option_map f o ≡ None → o ≡ None
map_none f None e = refl
map_none f (Some x) e = absurd cc

pub started : (all items : List Placed) (ds ls : List TokenName) → None ≡ name_fault all items ds ls → wrong_start ls (start_item all) ≡ None
started all items ds ls none =
    map_none StartNotNonterminal (wrong_start ls (start_item all))
    (second_none (option_map Undefined (first_undefined ds ls (behind_mark items))) _
    (second_none (option_map TokenOnLeft (first_at (is_token_on_left ds) items)) _
    (second_none (option_map SecondStart (first_start (behind_start all))) _ (sym none))))

-- ---- what the meaning gives is a file or a fault of meaning

abbrev IsOfMeaning : YaccError → Type 0
IsOfMeaning (BadItem at) = ⊥
IsOfMeaning (Unended at) = ⊥
IsOfMeaning (UnknownDirective at) = ⊥
IsOfMeaning (Syntax at) = ⊥
IsOfMeaning Memory = ⊥
IsOfMeaning e = Unit {0}

abbrev IsFound : Option YaccError → Type 0
IsFound None = Unit {0}
IsFound (Some e) = IsOfMeaning e

option_or_found : (o p : Option YaccError) → IsFound o → IsFound p → IsFound (option_or o p)
option_or_found None p h g = g
option_or_found (Some e) p h g = h

above_found : (which : YaccLimit) (found most : ℕ) → IsFound (above which found most)
above_found which found most = by_test (nat_lt most found)
  where
    by_test : (b : Bool) → IsFound (cond b (Some (Limit which found most)) None)
    by_test true = tt
    by_test false = tt

long_found : (rs : List SpelledRule) → IsFound (long_right rs)
long_found [] = tt
long_found (r ∷ rs) = option_or_found (above RightSide (length r.right) 128) (long_right rs) (above_found RightSide (length r.right) 128) (long_found rs)

limit_found : (p : Parts) → IsFound (limit_passed p)
limit_found p =
    option_or_found (above Tokens (length p.tokens) 512) _ (above_found Tokens (length p.tokens) 512)
    (option_or_found (above Nonterminals (length p.nonterminals) 1024) _ (above_found Nonterminals (length p.nonterminals) 1024)
    (option_or_found (above Rules (length p.rules) 8192) (long_right p.rules) (above_found Rules (length p.rules) 8192) (long_found p.rules)))

map_found : (f : ℕ → YaccError) → ((n : ℕ) → IsOfMeaning (f n)) → (o : Option ℕ) → IsFound (option_map f o)
map_found f h None = tt
map_found f h (Some n) = h n

name_found : (all items : List Placed) (ds ls : List TokenName) → IsFound (name_fault all items ds ls)
name_found all items ds ls =
    option_or_found (option_map SecondStart (first_start (behind_start all))) _ (map_found SecondStart (λ n. tt) _)
    (option_or_found (option_map TokenOnLeft (first_at (is_token_on_left ds) items)) _ (map_found TokenOnLeft (λ n. tt) _)
    (option_or_found (option_map Undefined (first_undefined ds ls (behind_mark items))) _ (map_found Undefined (λ n. tt) _) (map_found StartNotNonterminal (λ n. tt) _)))

unless_meant : (o : Option YaccError) (r : Result File YaccError) (e : YaccError) → IsFound o → (r ≡ Err e → IsOfMeaning e) → unless o r ≡ Err e → IsOfMeaning e
unless_meant None r e h g f = g f
unless_meant (Some d) r e h g f = let same : d ≡ e = cc in subst IsOfMeaning same h

ok_meant : (f : File) (e : YaccError) → Ok f ≡ Err e → IsOfMeaning e
ok_meant f e h = absurd cc

outcome_of_meaning : (all : List Placed) (e : YaccError) → outcome all ≡ Err e → IsOfMeaning e
outcome_of_meaning all e =
    let items = items_of (with_meaning all) in
    unless_meant (name_fault all (with_meaning all) (declared_tokens items) (nonterminals items)) (file_or_limit (parts_of all (with_meaning all))) e (name_found all (with_meaning all) (declared_tokens items) (nonterminals items))
    (unless_meant (limit_passed (parts_of all (with_meaning all))) (Ok (file_with (parts_of all (with_meaning all)))) e (limit_found (parts_of all (with_meaning all))) (ok_meant (file_with (parts_of all (with_meaning all))) e))

-- what is given for the items of a file is the answer
pub answers_from : (bytes : List ℕ) (ps : List Placed) (r : Result File YaccError) → Reads bytes ps → IsTaken (items_of ps) → IsGiven r (outcome ps) → Answers bytes r
unfolding IsYaccFile Refuses
answers_from bytes ps (Ok f) p t g = record { items = ps; read = p; taken = t; is = g }
answers_from bytes ps (Err (BadItem at)) p t g = absurd (outcome_of_meaning ps (BadItem at) g)
answers_from bytes ps (Err (Unended at)) p t g = absurd (outcome_of_meaning ps (Unended at) g)
answers_from bytes ps (Err (UnknownDirective at)) p t g = absurd (outcome_of_meaning ps (UnknownDirective at) g)
answers_from bytes ps (Err (Syntax at)) p t g = absurd (outcome_of_meaning ps (Syntax at) g)
answers_from bytes ps (Err (SecondStart at)) p t g = record { items = ps; read = p; taken = t; is = g }
answers_from bytes ps (Err (TokenOnLeft at)) p t g = record { items = ps; read = p; taken = t; is = g }
answers_from bytes ps (Err (Undefined at)) p t g = record { items = ps; read = p; taken = t; is = g }
answers_from bytes ps (Err (StartNotNonterminal at)) p t g = record { items = ps; read = p; taken = t; is = g }
answers_from bytes ps (Err (Limit which found most)) p t g = record { items = ps; read = p; taken = t; is = g }
answers_from bytes ps (Err Memory) p t g = tt

-- so is an error of reading the items
pub answers_err : (bytes : List ℕ) (e : item_errors.ItemsError) → AnswersItems bytes (Err e) → Answers bytes (Err (error_of e))
unfolding Refuses
answers_err bytes (stops.BadItem at) h = h
answers_err bytes (stops.Unended at) h = h
answers_err bytes (stops.UnknownDirective at) h = h
answers_err bytes stops.Memory h = tt

-- and an item that the table doesn't take
pub answers_stuck : (bytes : List ℕ) (ps : List Placed) (at : ℕ) → Reads bytes ps → IsStuck (length bytes) ps at → Answers bytes (Err (Syntax at))
unfolding Refuses
answers_stuck bytes ps at r s = (ps, r, s)

-- ---- accepted or refused

refused_from : (bytes : List ℕ) (ps : List Placed) (e : YaccError) → Reads bytes ps → IsTaken (items_of ps) → outcome ps ≡ Err e → Refuses e bytes
unfolding Refuses
refused_from bytes ps (BadItem at) p t g = absurd (outcome_of_meaning ps (BadItem at) g)
refused_from bytes ps (Unended at) p t g = absurd (outcome_of_meaning ps (Unended at) g)
refused_from bytes ps (UnknownDirective at) p t g = absurd (outcome_of_meaning ps (UnknownDirective at) g)
refused_from bytes ps (Syntax at) p t g = absurd (outcome_of_meaning ps (Syntax at) g)
refused_from bytes ps (SecondStart at) p t g = record { items = ps; read = p; taken = t; is = g }
refused_from bytes ps (TokenOnLeft at) p t g = record { items = ps; read = p; taken = t; is = g }
refused_from bytes ps (Undefined at) p t g = record { items = ps; read = p; taken = t; is = g }
refused_from bytes ps (StartNotNonterminal at) p t g = record { items = ps; read = p; taken = t; is = g }
refused_from bytes ps (Limit which found most) p t g = record { items = ps; read = p; taken = t; is = g }
refused_from bytes ps Memory p t g = absurd (outcome_of_meaning ps Memory g)

accepted_from : (bytes : List ℕ) (ps : List Placed) (f : File) → Reads bytes ps → IsTaken (items_of ps) → outcome ps ≡ Ok f → IsYaccFile bytes f
unfolding IsYaccFile
accepted_from bytes ps f p t g = record { items = ps; read = p; taken = t; is = g }

by_outcome : (bytes : List ℕ) (ps : List Placed) (r : Result File YaccError) → Reads bytes ps → IsTaken (items_of ps) → outcome ps ≡ r → IsAccepted bytes ⊎ IsRefused bytes
by_outcome bytes ps (Ok f) p t g = inl (f, accepted_from bytes ps f p t g)
by_outcome bytes ps (Err e) p t g = inr (e, refused_from bytes ps e p t g)

stuck_refused : (bytes : List ℕ) (ps : List Placed) (at : ℕ) → Reads bytes ps → IsStuck (length bytes) ps at → Refuses (Syntax at) bytes
unfolding Refuses
stuck_refused bytes ps at p s = (ps, p, s)

by_table : (bytes : List ℕ) (ps : List Placed) (o : Option ℕ) → Reads bytes ps → o ≡ stuck_at declarations (length bytes) ps → IsAccepted bytes ⊎ IsRefused bytes
by_table bytes ps None p e = by_outcome bytes ps (outcome ps) p (taken_from_none (length bytes) ps e) refl
by_table bytes ps (Some at) p e = inr (Syntax at, stuck_refused bytes ps at p (stuck_from_some (length bytes) ps at e))

stopped_refused : (bytes : List ℕ) (e : item_errors.ItemsError) → StopsFor bytes e → Refuses (error_of e) bytes
unfolding Refuses
stopped_refused bytes (stops.BadItem at) h = h
stopped_refused bytes (stops.Unended at) h = h
stopped_refused bytes (stops.UnknownDirective at) h = h
stopped_refused bytes stops.Memory h = h

pub read_accepted_or_refused : (bytes : List ℕ) → IsRead bytes ⊎ IsStopped bytes → IsAccepted bytes ⊎ IsRefused bytes
read_accepted_or_refused bytes (inl r) = by_table bytes r.0 (stuck_at declarations (length bytes) r.0) r.1 refl
read_accepted_or_refused bytes (inr s) = inr (error_of s.0, stopped_refused bytes s.0 s.1)
