-- Goals and codes as the keys of tables.
use Rattle.std.proofs.Common.{◌≡◌, ℕ, ◌+◌, ◌-◌, ◌<◌, ◌||◌, ⊎_elim, Bool, true, false, cond, List, [], ◌∷◌, ◌++◌, length, get_or, refl, sym, ap, ◌∙◌, subst, arith}
use Rattle.std.specs.Prelude.{Option, Some, None, is_some, slice_get, Contains}
use Rattle.std.specs.Bool.{OnTrue}
use Rattle.std.specs.Cmp.{IsEquivalence}
use Rattle.std.specs.List.{list_any, position_or_len}
use Rattle.std.specs.Map.{lookup, keys_of}
use Rattle.std.specs.Str.{bytes_eq}
use Rattle.std.proofs.lemmas.Bool.{cases_lt, false≢true, eq-eqb}
use Rattle.std.proofs.lemmas.List.{length-map, get_or-map, map_push}
use Rattle.std.proofs.lemmas.List.Sums.{fails_before_first, passes_at_first, position_or_len_is}
use Rattle.std.proofs.lemmas.Map.Views.{Contains-from_lookup, IsSome-lookup_from_Contains, Contains-from_any, list_any-from_Contains}
use Rattle.std.proofs.lemmas.Option.{slice_get-get_or, get_or_from_slice_get}
use Rattle.std.proofs.lemmas.Slice.Eq.{bytes_eq-Decides}
use Rattle.indexmap.specs.IndexSet.{insert_key}
use Rattle.cs_grammar.specs.declared.symbol.Mark.{Mark}
use Rattle.cs_grammar.specs.declared.symbol.Mark.TheVariants as mark
use Rattle.cs_goals.specs.declared.goal.Goal.{Goal}
use Rattle.cs_goals.specs.declared.goal.Goal.TheVariants as goal
use Rattle.cs_verdicts.specs.declared.cases.code.Code.{Code}
use Rattle.cs_verdicts.specs.declared.cases.firsts.Key.{Key}
use Rattle.cs_verdicts.specs.declared.cases.firsts.Key.TheVariants.{Rule, Context, Pair}
use Rattle.cs_verdicts.specs.declared.cases.firsts.MarkKey.{MarkKey}
use Rattle.cs_verdicts.specs.declared.cases.firsts.MarkKey.TheVariants.{Begin, Token, End}
use Rattle.cs_verdicts.specs.contracts.cases.firsts.KeyPartialEq.TheImpl as keys
use Rattle.cs_verdicts.specs.contracts.cases.firsts.MarkKeyPartialEq.TheImpl as marks
use Rattle.cs_verdicts.specs.contracts.cases.code.CodePartialEq.TheImpl as derived
use Rattle.cs_verdicts.specs.Cases.Cases.{IsLowest}
use Rattle.cs_verdicts.specs.Cases.KeyHash.{same_key}
use Rattle.cs_verdicts.specs.Cases.Firsts.{mark_key, key_of, mark_of, goal_of, first_in, firsts_in}
use Rattle.cs_verdicts.specs.Cases.Table.{codes_in, IsFound, HasNumber, HasNone}

-- a test that is equality
module _ {K : Type 0} (eq : K → K → Bool) (same : (x y : K) → eq x y ≡ true → x ≡ y) (self : (x : K) → eq x x ≡ true) where
  turned : (x y : K) (a b : Bool) → eq x y ≡ a → eq y x ≡ b → a ≡ b
  turned x y true true e f = refl
  turned x y false false e f = refl
  turned x y true false e f = absurd (false≢true (sym f ∙ ap (λ z. eq z x) (sym (same x y e)) ∙ self x))
  turned x y false true e f = absurd (false≢true (sym e ∙ ap (λ z. eq z y) (sym (same y x f)) ∙ self y))

  pub equivalence : IsEquivalence eq
  equivalence = record {
    refl = self;
    symm = λ x y. turned x y (eq x y) (eq y x) refl refl;
    congr = λ x y z e. ap (λ w. eq w z) (same x y e);
  }

-- ---- the keys of goals

self_mark : (a : MarkKey) → marks.eq-value.it a a ≡ true
self_mark Begin = refl
self_mark (Token t) = eq-eqb t t refl
self_mark End = refl

self_key : (a : Key) → keys.eq-value.it a a ≡ true
self_key (Rule r) = eq-eqb r r refl
self_key (Context p i q) = rw (eq-eqb p p refl, eq-eqb i i refl, eq-eqb q q refl) refl
self_key (Pair a b) = rw (self_mark a, self_mark b) refl

mark_of-mark_key : (a : Mark) → mark_of (mark_key a) ≡ a
mark_of-mark_key mark.Begin = refl
mark_of-mark_key (mark.Token t) = refl
mark_of-mark_key mark.End = refl

mark_key-mark_of : (a : MarkKey) → mark_key (mark_of a) ≡ a
mark_key-mark_of Begin = refl
mark_key-mark_of (Token t) = refl
mark_key-mark_of End = refl

pub goal_of-key_of : (q : Goal) → goal_of (key_of q) ≡ q
goal_of-key_of (goal.Rule r) = refl
goal_of-key_of (goal.Context p i q) = refl
goal_of-key_of (goal.Pair a b) = ap (λ (m : Mark). goal.Pair m (mark_of (mark_key b))) (mark_of-mark_key a) ∙ ap (λ (m : Mark). goal.Pair a m) (mark_of-mark_key b)

key_of-goal_of : (k : Key) → key_of (goal_of k) ≡ k
key_of-goal_of (Rule r) = refl
key_of-goal_of (Context p i q) = refl
key_of-goal_of (Pair a b) = ap (λ (m : MarkKey). Pair m (mark_key (mark_of b))) (mark_key-mark_of a) ∙ ap (λ (m : MarkKey). Pair a m) (mark_key-mark_of b)

-- ---- what the table of goals tells

pub found_number : (q : Goal) (n : ℕ) (es : List (Key × ℕ)) → lookup (keys.eq-value.it (key_of q)) es ≡ Some n → Contains (firsts_in es) (q, n)
found_number q n es e =
    let c = Contains-from_lookup same_key (key_of q) n es e in
    let long = length-map es first_in in
    (c.0, omega (arith, c.1, long), get_or-map first_in es c.0 (key_of q, n) (q, n) c.1 ∙ ap first_in c.2 ∙ ap (λ (g : Goal). (g, n)) (goal_of-key_of q))

pub no_number : (q : Goal) (es : List (Key × ℕ)) → lookup (keys.eq-value.it (key_of q)) es ≡ None → (n : ℕ) → Contains (firsts_in es) (q, n) → ⊥
no_number q es e n c =
    let long = length-map es first_in in
    let within : c.0 < length es = omega (arith, c.1, long) in
    let d : Key × ℕ = (key_of q, n) in
    let x = get_or es c.0 d in
    let pair : first_in x ≡ (q, n) = sym (get_or-map first_in es c.0 d (q, n) within) ∙ c.2 in
    let key : x.0 ≡ key_of q = sym (key_of-goal_of x.0) ∙ ap (λ (g : Goal × ℕ). key_of g.0) pair in
    let names = length-map es (λ (entry : Key × ℕ). entry.0) in
    let there : Contains (keys_of es) (key_of q) = (c.0, omega (arith, within, names), get_or-map (λ (entry : Key × ℕ). entry.0) es c.0 d (key_of q) within ∙ key) in
    let some = IsSome-lookup_from_Contains (equivalence keys.eq-value.it same_key self_key) (key_of q) es there in
    false≢true (ap is_some (sym e) ∙ some)

pub found_is : (q : Goal) (es : List (Key × ℕ)) (o : Option ℕ) → o ≡ lookup (keys.eq-value.it (key_of q)) es → IsFound (firsts_in es) q o
found_is q es None e = no_number q es (sym e)
found_is q es (Some n) e = found_number q n es (sym e)

pub firsts_in-push : (es : List (Key × ℕ)) (q : Goal) (n : ℕ) → firsts_in (es ++ (key_of q, n) ∷ []) ≡ firsts_in es ++ (q, n) ∷ []
firsts_in-push es q n = map_push first_in es (key_of q, n) ∙ ap (λ (g : Goal). firsts_in es ++ (g, n) ∷ []) (goal_of-key_of q)

none_is : (o : Option ℕ) → is_some o ≡ false → o ≡ None
none_is None e = refl
none_is (Some n) e = absurd (false≢true (sym e))

some_is : (o : Option ℕ) → is_some o ≡ true → (n : ℕ) × (o ≡ Some n)
some_is None e = absurd (false≢true e)
some_is (Some n) e = (n, refl)

-- a key that is there, and one that is put last
pub known_key : (q : Goal) (key : Key) (es : List (Key × ℕ)) → key ≡ key_of q → is_some (lookup (keys.eq-value.it key) es) ≡ true → HasNumber (firsts_in es) q
known_key q key es is there =
    let some = some_is (lookup (keys.eq-value.it key) es) there in
    (some.0, found_number q some.0 es (ap (λ (k : Key). lookup (keys.eq-value.it k) es) (sym is) ∙ some.1))

pub on_true : (b : Bool) (P : Type 0) → b ≡ true → OnTrue b P → P
on_true true P e h = h
on_true false P e h = absurd (false≢true e)

pub new_key : (q : Goal) (key : Key) (es new : List (Key × ℕ)) (n : ℕ) → key ≡ key_of q → is_some (lookup (keys.eq-value.it key) es) ≡ false
    → (lookup (keys.eq-value.it key) es ≡ None → new ≡ es ++ (key, n) ∷ []) → HasNone (firsts_in es) q × (firsts_in new ≡ firsts_in es ++ (q, n) ∷ [])
new_key q key es new n is absent put =
    let none = none_is (lookup (keys.eq-value.it key) es) absent in (
      no_number q es (ap (λ (k : Key). lookup (keys.eq-value.it k) es) (sym is) ∙ none),
      ap firsts_in (put none ∙ ap (λ (k : Key). es ++ (k, n) ∷ []) is) ∙ firsts_in-push es q n,
    )

-- ---- codes

same_code : (x y : List ℕ) → bytes_eq x y ≡ true → x ≡ y
same_code x y = (bytes_eq-Decides x y).0

self_code : (x : List ℕ) → bytes_eq x x ≡ true
self_code x = (bytes_eq-Decides x x).1 refl

-- the first place of a code in a list
module _ (code : List ℕ) (codes : List (List ℕ)) where
  abbrev place : ℕ
  place = position_or_len (bytes_eq code) codes

  within_there : Contains codes code → place < length codes
  within_there c =
      ⊎_elim (λ within. within)
      (λ past. let no = fails_before_first (bytes_eq code) codes c.0 code (omega (arith, c.1, past)) in
      absurd (false≢true (sym no ∙ ap (bytes_eq code) c.2 ∙ self_code code)))
      (cases_lt place (length codes))

  own_place : Contains codes code → IsLowest (λ other. other ≡ code) codes (place + 1)
  own_place c =
      let within = within_there c in
      let is = same_code code (get_or codes place code) (passes_at_first (bytes_eq code) codes code within) in
      let back : place + 1 - 1 ≡ place = omega arith in
      record {
        code = code;
        above_zero = omega arith;
        at = ap (λ k. slice_get codes k) back ∙ slice_get-get_or codes place code within ∙ ap Some (sym is);
        is_one = refl;
        lowest = λ k other lt at same.
            let before : k < place = omega (arith, lt) in
            let other_is = get_or_from_slice_get codes k other code at in
            false≢true (sym (fails_before_first (bytes_eq code) codes k code before) ∙ ap (bytes_eq code) (other_is ∙ same) ∙ self_code code);
      }

  fails_at : (Contains codes code → ⊥) → (k : ℕ) → k < length codes → (b : Bool) → bytes_eq code (get_or codes k code) ≡ b → b ≡ false
  fails_at new k lt true e = absurd (new (k, lt, sym (same_code code (get_or codes k code) e)))
  fails_at new k lt false e = refl

  last_place : (Contains codes code → ⊥) → place ≡ length codes
  last_place new =
      position_or_len_is (bytes_eq code) codes (length codes) code (omega arith)
      (λ k lt. fails_at new k lt (bytes_eq code (get_or codes k code)) refl) (λ lt. absurd (omega (arith, lt)))

-- a code among those of a table
module _ (v : Code) where
  abbrev pub is_code : Code → Bool
  is_code = derived.eq-value.it v

  abbrev code : List ℕ
  code = v.rules.items

  any_in : (vs : List Code) → list_any is_code vs ≡ list_any (bytes_eq code) (codes_in vs)
  any_in [] = refl
  any_in (w ∷ vs) = ap (λ b. bytes_eq code w.rules.items || b) (any_in vs)

  place_in : (vs : List Code) → position_or_len is_code vs ≡ place code (codes_in vs)
  place_in [] = refl
  place_in (w ∷ vs) = rw (place_in vs) refl

  pub known_code : (vs : List Code) → list_any is_code vs ≡ true → Contains (codes_in vs) code
  known_code vs h = Contains-from_any same_code code (codes_in vs) (sym (any_in vs) ∙ h)

  pub new_code : (vs : List Code) → list_any is_code vs ≡ false → Contains (codes_in vs) code → ⊥
  new_code vs h c = false≢true (sym h ∙ any_in vs ∙ list_any-from_Contains (equivalence bytes_eq same_code self_code) code (codes_in vs) c)

  -- a code that is found has this number
  pub own_number : (vs : List Code) → list_any is_code vs ≡ true → IsLowest (λ other. other ≡ code) (codes_in vs) (position_or_len is_code vs + 1)
  own_number vs h =
      subst (λ k. IsLowest (λ other. other ≡ code) (codes_in vs) (k + 1)) (sym (place_in vs)) (own_place code (codes_in vs) (known_code vs h))

  -- and another the one behind the last
  pub last_number : (vs : List Code) → list_any is_code vs ≡ false → position_or_len is_code vs ≡ length vs
  last_number vs h = place_in vs ∙ last_place code (codes_in vs) (new_code vs h) ∙ length-map vs (λ (w : Code). w.rules.items)

  pub insert_known : (vs : List Code) → list_any is_code vs ≡ true → insert_key derived.eq-value.it vs v ≡ vs
  insert_known vs h = ap (λ b. cond b vs (vs ++ v ∷ [])) h

  pub insert_new : (vs : List Code) → list_any is_code vs ≡ false → insert_key derived.eq-value.it vs v ≡ vs ++ v ∷ []
  insert_new vs h = ap (λ b. cond b vs (vs ++ v ∷ [])) h

pub codes_in-push : (vs : List Code) (v : Code) → codes_in (vs ++ v ∷ []) ≡ codes_in vs ++ v.rules.items ∷ []
codes_in-push vs v = map_push (λ (x : Code). x.rules.items) vs v
