-- Words in tables.
use Rattle.std.proofs.Common.{◌≡◌, Bool, true, false, cond, not, List, [], ◌∷◌, ◌++◌, refl, sym, ap, ◌∙◌, append_assoc}
use Rattle.std.specs.List.{list_any}
use Rattle.std.specs.Prelude.{filter}
use Rattle.std.proofs.lemmas.Bool.{false≢true, false_from_ne_true, eqb-true, eq-eqb}
use Rattle.std.proofs.lemmas.List.{map_push, append-nil}
use Rattle.std.proofs.lemmas.Slice.Eq.{bytes_eq-Decides}
use Rattle.indexmap.specs.IndexSet.{insert_key, insert_all}
use Rattle.cs_yacc.specs.declared.reading.name.TokenName.{TokenName}
use Rattle.cs_yacc.specs.declared.reading.name.TokenName.TheVariants.{Word, Byte}
use Rattle.cs_yacc.specs.Reading.Meaning.{distinct, same_spelling, has_spelling}
use Rattle.cs_yacc.specs.Reading.SpellingView.{spelling_of, spellings_of}
use Rattle.cs_yacc.specs.declared.reading.spelling.Spelling as code
use Rattle.cs_yacc.specs.declared.reading.spelling.Spelling.TheVariants as variants
use Rattle.cs_yacc.specs.contracts.reading.spelling.SpellingPartialEq.TheImpl as derived

pub eq_is : (v w : code.Spelling) → derived.eq-value.it v w ≡ same_spelling (spelling_of v) (spelling_of w)
eq_is (variants.Named m) (variants.Named n) = refl
eq_is (variants.Named m) (variants.Quoted b) = refl
eq_is (variants.Quoted a) (variants.Named n) = refl
eq_is (variants.Quoted a) (variants.Quoted b) = refl

-- ---- what the tables say, of the words

pub has_is : (v : code.Spelling) (ks : List code.Spelling) → list_any (derived.eq-value.it v) ks ≡ has_spelling (spellings_of ks) (spelling_of v)
has_is v [] = refl
has_is v (k ∷ ks) = rw (eq_is v k, has_is v ks) refl

pub insert_is : (ks : List code.Spelling) (v : code.Spelling) → spellings_of (insert_key derived.eq-value.it ks v) ≡ insert_key same_spelling (spellings_of ks) (spelling_of v)
insert_is ks v = step (list_any (derived.eq-value.it v) ks) (has_is v ks)
  where
    step : (b : Bool) → b ≡ has_spelling (spellings_of ks) (spelling_of v) → spellings_of (cond b ks (ks ++ v ∷ [])) ≡ insert_key same_spelling (spellings_of ks) (spelling_of v)
    step true e = rw (← e) refl
    step false e = rw (← e) (map_push spelling_of ks v)

-- ---- words are equal where the test says so

pub same_is : (v w : TokenName) → same_spelling v w ≡ true → v ≡ w
same_is (Word m) (Word n) e = ap Word ((bytes_eq-Decides m n).0 e)
same_is (Word m) (Byte b) e = absurd (false≢true e)
same_is (Byte a) (Word n) e = absurd (false≢true e)
same_is (Byte a) (Byte b) e = ap Byte (eqb-true a b e)

pub same_self : (v : TokenName) → same_spelling v v ≡ true
same_self (Word m) = (bytes_eq-Decides m m).1 refl
same_self (Byte a) = eq-eqb a a refl

-- ---- each word once

-- a word that passes no test for another one stays
has_filter : (v w : TokenName) (ws : List TokenName) → same_spelling v w ≡ false → has_spelling (filter (λ x. not (same_spelling v x)) ws) w ≡ has_spelling ws w
has_filter v w [] ne = refl
has_filter v w (x ∷ ws) ne = step (same_spelling v x) refl (has_filter v w ws ne)
  where
    differs : same_spelling v x ≡ true → same_spelling w x ≡ false
    differs e = false_from_ne_true (same_spelling w x) (λ f. let g : v ≡ w = same_is v x e ∙ sym (same_is w x f) in false≢true (sym ne ∙ ap (λ y. same_spelling v y) (sym g) ∙ same_self v))

    step : (b : Bool) → same_spelling v x ≡ b → has_spelling (filter (λ y. not (same_spelling v y)) ws) w ≡ has_spelling ws w
        → has_spelling (cond (not b) (x ∷ filter (λ y. not (same_spelling v y)) ws) (filter (λ y. not (same_spelling v y)) ws)) w ≡ has_spelling (x ∷ ws) w
    step true e h = rw (differs e) h
    step false e h = rw h refl

filter_push : {X : Type 0} (p : X → Bool) (xs : List X) (x : X) → filter p (xs ++ x ∷ []) ≡ filter p xs ++ filter p (x ∷ [])
filter_push p [] x = refl
filter_push p (y ∷ xs) x = step (p y) (filter_push p xs x)
  where
    step : (b : Bool) → filter p (xs ++ x ∷ []) ≡ filter p xs ++ filter p (x ∷ []) → cond b (y ∷ filter p (xs ++ x ∷ [])) (filter p (xs ++ x ∷ [])) ≡ cond b (y ∷ filter p xs) (filter p xs) ++ filter p (x ∷ [])
    step true h = rw h refl
    step false h = h

pub distinct_push : (ws : List TokenName) (w : TokenName) → distinct (ws ++ w ∷ []) ≡ insert_key same_spelling (distinct ws) w
distinct_push [] w = refl
distinct_push (v ∷ ws) w = rw (distinct_push ws w) (by_cases (same_spelling v w) refl (has_spelling (distinct ws) w) refl)
  where
    differs : same_spelling v w ≡ false → same_spelling w v ≡ true → ⊥
    differs e f = let g : v ≡ w = sym (same_is w v f) in false≢true (sym e ∙ rw g (same_self w))

    by_cases : (s : Bool) → same_spelling v w ≡ s → (b : Bool) → has_spelling (distinct ws) w ≡ b
        → v ∷ filter (λ x. not (same_spelling v x)) (insert_key same_spelling (distinct ws) w) ≡ insert_key same_spelling (v ∷ filter (λ x. not (same_spelling v x)) (distinct ws)) w
    by_cases true e true h =
        let back : same_spelling w v ≡ true = rw (same_is v w e) (same_self w) in
        rw (h, back) refl
    by_cases true e false h =
        let back : same_spelling w v ≡ true = rw (same_is v w e) (same_self w) in
        rw (h, back) (ap (λ (x : List TokenName). v ∷ x) (filter_push (λ x. not (same_spelling v x)) (distinct ws) w ∙ rw e (append-nil (filter (λ x. not (same_spelling v x)) (distinct ws)))))
    by_cases false e true h =
        let back : same_spelling w v ≡ false = false_from_ne_true (same_spelling w v) (λ f. differs e f) in
        let has : has_spelling (filter (λ x. not (same_spelling v x)) (distinct ws)) w ≡ true = has_filter v w (distinct ws) e ∙ h in
        rw (h, back, has) refl
    by_cases false e false h =
        let back : same_spelling w v ≡ false = false_from_ne_true (same_spelling w v) (λ f. differs e f) in
        let has : has_spelling (filter (λ x. not (same_spelling v x)) (distinct ws)) w ≡ false = has_filter v w (distinct ws) e ∙ h in
        rw (h, back, has) (ap (λ (x : List TokenName). v ∷ x) (filter_push (λ x. not (same_spelling v x)) (distinct ws) w ∙ rw e refl))

pub has_distinct : (ws : List TokenName) (w : TokenName) → has_spelling (distinct ws) w ≡ has_spelling ws w
has_distinct [] w = refl
has_distinct (v ∷ ws) w = step (same_spelling w v) refl (has_distinct ws w)
  where
    differs : same_spelling w v ≡ false → same_spelling v w ≡ false
    differs e = false_from_ne_true (same_spelling v w) (λ f. let g : v ≡ w = same_is v w f in false≢true (sym e ∙ rw g (same_self w)))

    step : (b : Bool) → same_spelling w v ≡ b → has_spelling (distinct ws) w ≡ has_spelling ws w → has_spelling (distinct (v ∷ ws)) w ≡ has_spelling (v ∷ ws) w
    step true e h = rw e refl
    step false e h = rw e (has_filter v w (distinct ws) (differs e) ∙ h)

-- ---- tests of words

filter_swap : {X : Type 0} (p q : X → Bool) (xs : List X) → filter p (filter q xs) ≡ filter q (filter p xs)
filter_swap p q [] = refl
filter_swap {X = X} p q (x ∷ xs) = step (p x) refl (q x) refl (filter_swap p q xs)
  where
    step : (a : Bool) → p x ≡ a → (b : Bool) → q x ≡ b → filter p (filter q xs) ≡ filter q (filter p xs) → filter p (filter q (x ∷ xs)) ≡ filter q (filter p (x ∷ xs))
    step true e true f h = rw (e, f, e) (ap (λ (ys : List X). x ∷ ys) h)
    step true e false f h = rw (e, f) h
    step false e true f h = rw (e, f, e) h
    step false e false f h = rw (e, f) h

filter_twice : {X : Type 0} (p : X → Bool) (xs : List X) → filter p (filter p xs) ≡ filter p xs
filter_twice p [] = refl
filter_twice {X = X} p (x ∷ xs) = step (p x) refl (filter_twice p xs)
  where
    step : (b : Bool) → p x ≡ b → filter p (filter p xs) ≡ filter p xs → filter p (filter p (x ∷ xs)) ≡ filter p (x ∷ xs)
    step true e h = rw (e, e) (ap (λ (ys : List X). x ∷ ys) h)
    step false e h = rw e h

-- the other spellings pass as if the one that doesn't pass were there
filter_others : (p : TokenName → Bool) (w : TokenName) (ws : List TokenName) → p w ≡ false → filter p (filter (λ v. not (same_spelling w v)) ws) ≡ filter p ws
filter_others p w [] fails = refl
filter_others p w (v ∷ ws) fails = step (same_spelling w v) refl (filter_others p w ws fails)
  where
    step : (b : Bool) → same_spelling w v ≡ b → filter p (filter (λ v. not (same_spelling w v)) ws) ≡ filter p ws → filter p (filter (λ v. not (same_spelling w v)) (v ∷ ws)) ≡ filter p (v ∷ ws)
    step true e h = let here : p v ≡ false = ap p (sym (same_is w v e)) ∙ fails in rw (e, here) h
    step false e h = rw e (ap (λ (ys : List TokenName). cond (p v) (v ∷ ys) ys) h)

-- the spellings that pass, each once
filter-distinct : (p : TokenName → Bool) (ws : List TokenName) → filter p (distinct ws) ≡ distinct (filter p ws)
filter-distinct p [] = refl
filter-distinct p (w ∷ ws) = step (p w) refl (filter-distinct p ws)
  where
    step : (b : Bool) → p w ≡ b → filter p (distinct ws) ≡ distinct (filter p ws) → filter p (distinct (w ∷ ws)) ≡ distinct (filter p (w ∷ ws))
    step true e h = rw e (ap (λ (ys : List TokenName). w ∷ ys) (filter_swap p (λ v. not (same_spelling w v)) (distinct ws) ∙ ap (filter (λ v. not (same_spelling w v))) h))
    step false e h = rw e (filter_others p w (distinct ws) e ∙ h)

distinct_twice : (ws : List TokenName) → distinct (distinct ws) ≡ distinct ws
distinct_twice [] = refl
distinct_twice (w ∷ ws) =
    let others : TokenName → Bool = λ v. not (same_spelling w v) in
    ap (λ (ys : List TokenName). w ∷ ys)
    (ap (filter others) (sym (filter-distinct others (distinct ws)) ∙ ap (filter others) (distinct_twice ws)) ∙ filter_twice others (distinct ws))

pub distinct-filter-distinct : (p : TokenName → Bool) (ws : List TokenName) → distinct (filter p (distinct ws)) ≡ distinct (filter p ws)
distinct-filter-distinct p ws = ap distinct (filter-distinct p ws) ∙ distinct_twice (filter p ws)

-- The table holds the words that were gathered, each once, and more come.
pub record Gathers (table more all : List TokenName) : Type 0 where
  pub done : List TokenName
  pub table_is : table ≡ distinct done
  pub all_is : done ++ more ≡ all

pub Gathers-more : (table more rest all ws : List TokenName) → Gathers table more all → more ≡ ws ++ rest → Gathers (insert_all same_spelling table ws) rest all
Gathers-more table more rest all [] g e = record { done = g.done; table_is = g.table_is; all_is = ap (λ (x : List TokenName). g.done ++ x) (sym e) ∙ g.all_is }
Gathers-more table more rest all (w ∷ ws) g e =
    let one : Gathers (insert_key same_spelling table w) (ws ++ rest) all = record {
      done = g.done ++ w ∷ [];
      table_is = rw g.table_is (sym (distinct_push g.done w));
      all_is = append_assoc g.done (w ∷ []) (ws ++ rest) ∙ ap (λ (x : List TokenName). g.done ++ x) (sym e) ∙ g.all_is;
    } in
    Gathers-more (insert_key same_spelling table w) (ws ++ rest) rest all ws one refl

pub Gathers-ends : (table all : List TokenName) → Gathers table [] all → table ≡ distinct all
Gathers-ends table all g = g.table_is ∙ ap distinct (sym (append-nil g.done) ∙ g.all_is)
