-- The named part of a bracket whose size is counted is the one that its text spells.
use Rattle.std.proofs.Common.{◌≡◌, ℕ, zero, suc, ◌+◌, ◌-◌, ◌<◌, Bool, true, false, List, [], ◌∷◌, ◌++◌, length, length-append, append_assoc, take, drop, Some, refl, sym, ap, ◌∙◌, arith, subst}
use Rattle.std.specs.Prelude.{◌==◌, ◌||◌, ◌&&◌, nat_lt, if◌then◌else◌, slice_get, slice_index_or}
use Rattle.std.specs.List.{prefix_len, list_all}
use Rattle.std.proofs.lemmas.Bool.{false≢true, eqb-true, eq-eqb, lt-ltb, ltb-true}
use Rattle.std.proofs.lemmas.List.{length-take}
use Rattle.std.proofs.lemmas.List.Sums.{prefix_len-le-length}
use Rattle.std.proofs.lemmas.Option.{slice_get-get_or}
use Rattle.cs_bytes.proofs.Fronts.{and_true, got_at, get_or-got}
use Rattle.cs_bytes.proofs.Runs.{run-passes}
use Rattle.cs_bytes.specs.Classes.{is_inner}
use Rattle.cs_bytes.specs.Places.{begins_with, has_at}
use Rattle.cs_pattern_parts.proofs.OnItems.Braces.{has_at_end, run_then, split_run}
use Rattle.cs_lex.specs.Layout.Patterns.{is_part_mark, part_len, opens_part, closes_part, is_named_part, named_size, HasNamedPart, IsNamedByText}

and_both : (a b : Bool) → a ≡ true → b ≡ true → (a && b) ≡ true
and_both a b e f = rw (e, f) refl

and_three : (a b c : Bool) → a ≡ true → b ≡ true → c ≡ true → (a && b && c) ≡ true
and_three a b c e f g = rw (e, f, g) refl

if_true : (v : Bool) (n : ℕ) → v ≡ true → (if v then n else 0) ≡ n
if_true v n e = rw e refl

if_positive : (v : Bool) (n : ℕ) → 0 < (if v then n else 0) → v ≡ true
if_positive true n h = refl
if_positive false n h = absurd (omega (arith, h))

mark_inner : (mark : ℕ) → is_part_mark mark ≡ true → is_inner mark ≡ true
mark_inner mark e = by_test (mark == 58) (mark == 46) (mark == 61) refl refl refl e
  where
    by_test : (a b c : Bool) → (mark == 58) ≡ a → (mark == 46) ≡ b → (mark == 61) ≡ c → (a || b || c) ≡ true → is_inner mark ≡ true
    by_test true b c p q r e = subst (λ (n : ℕ). is_inner n ≡ true) (sym (eqb-true mark 58 p)) refl
    by_test false true c p q r e = subst (λ (n : ℕ). is_inner n ≡ true) (sym (eqb-true mark 46 q)) refl
    by_test false false true p q r e = subst (λ (n : ℕ). is_inner n ≡ true) (sym (eqb-true mark 61 r)) refl
    by_test false false false p q r e = absurd (false≢true e)

-- ---- its size, by a count

module _ (mark : ℕ) (behind : List ℕ) where
  abbrev text : List ℕ
  text = 91 ∷ mark ∷ behind

  closes_by : (len : ℕ) → 0 < len → has_at behind len 93 ≡ true → has_at behind (len - 1) mark ≡ true → closes_part len text ≡ true
  closes_by len some closed again =
      let two : len + 2 ≡ suc (suc len) = omega arith in
      let next : len + 1 ≡ suc (suc (len - 1)) = omega (arith, some) in
      and_three (begins_with 93 (drop (len + 2) text)) (nat_lt 0 len) (slice_index_or text (len + 1) 0 == mark)
      (ap (λ (n : ℕ). begins_with 93 (drop n text)) two ∙ closed)
      (lt-ltb 0 len some)
      (ap (λ (n : ℕ). slice_index_or text n 0 == mark) next ∙ eq-eqb (slice_index_or behind (len - 1) 0) mark (get_or-got behind (len - 1) mark (got_at behind (len - 1) mark again)))

  size_by : (len : ℕ) → is_part_mark mark ≡ true → prefix_len is_inner behind ≡ len → closes_part len text ≡ true → named_size text ≡ len + 3
  size_by len is_mark run closes =
      let there : closes_part (part_len text) text ≡ true = ap (λ (n : ℕ). closes_part n text) run ∙ closes in
      let test : is_named_part text ≡ true = and_both (opens_part text) (closes_part (part_len text) text) (and_both (begins_with 91 text) (is_part_mark mark) refl is_mark) there in
      if_true (is_named_part text) (part_len text + 3) test ∙ ap (λ (n : ℕ). n + 3) run

-- ---- the text that is spelled

all_more : (p : ℕ → Bool) (xs : List ℕ) (c : ℕ) → list_all p xs ≡ true → p c ≡ true → list_all p (xs ++ c ∷ []) ≡ true
all_more p [] c e f = rw f refl
all_more p (x ∷ xs) c e f = let both = and_true (p x) (list_all p xs) e in rw (both.0, all_more p xs c both.1 f) refl

module _ (mark : ℕ) (name rest : List ℕ) (is_mark : is_part_mark mark ≡ true) (all : list_all is_inner name ≡ true) where
  abbrev behind : List ℕ
  behind = (name ++ mark ∷ 93 ∷ []) ++ rest

  behind_name : behind ≡ name ++ mark ∷ (93 ∷ rest)
  behind_name = append_assoc name (mark ∷ 93 ∷ []) rest

  behind_mark : behind ≡ (name ++ mark ∷ []) ++ 93 ∷ rest
  behind_mark = behind_name ∙ sym (append_assoc name (mark ∷ []) (93 ∷ rest))

  run_is : prefix_len is_inner behind ≡ length name + 1
  run_is = ap (prefix_len is_inner) behind_mark ∙ run_then is_inner (name ++ mark ∷ []) 93 rest (all_more is_inner name mark all (mark_inner mark is_mark)) refl ∙ length-append name (mark ∷ [])

  closing_is : has_at behind (length name + 1) 93 ≡ true
  closing_is = ap (λ (k : ℕ). has_at behind k 93) (sym (length-append name (mark ∷ []))) ∙ ap (λ (xs : List ℕ). has_at xs (length (name ++ mark ∷ [])) 93) behind_mark ∙ has_at_end (name ++ mark ∷ []) 93 93 rest

  mark_is : has_at behind (length name) mark ≡ true
  mark_is = ap (λ (xs : List ℕ). has_at xs (length name) mark) behind_name ∙ has_at_end name mark mark (93 ∷ rest) ∙ eq-eqb mark mark refl

  sized : named_size (91 ∷ mark ∷ behind) ≡ length name + 1 + 3
  sized =
      let less : length name + 1 - 1 ≡ length name = omega arith in
      size_by mark behind (length name + 1) is_mark run_is
      (closes_by mark behind (length name + 1) (omega arith) closing_is (ap (λ (k : ℕ). has_at behind k mark) less ∙ mark_is))

told : (text : List ℕ) (size : ℕ) → HasNamedPart text size → named_size text ≡ size
told text size h =
    let count : named_size (91 ∷ h.mark ∷ ((h.name ++ h.mark ∷ 93 ∷ []) ++ h.shown.rest)) ≡ length h.name + 1 + 3 = sized h.mark h.name h.shown.rest h.is_mark h.inner in
    let whole : size ≡ length h.name + 1 + 3 = omega (arith, h.shown.size, length-append h.name (h.mark ∷ 93 ∷ [])) in
    subst (λ (t : List ℕ). named_size t ≡ size) (sym h.shown.is) (count ∙ sym whole)

-- ---- the text that is counted

take_next : (xs : List ℕ) (k c : ℕ) → slice_get xs k ≡ Some c → take (k + 1) xs ≡ take k xs ++ c ∷ []
take_next [] k c e = absurd cc
take_next (x ∷ xs) zero c e = let same : x ≡ c = cc in ap (λ (z : ℕ). z ∷ []) same
take_next (x ∷ xs) (suc k) c e = let next : suc k + 1 ≡ suc (k + 1) = omega arith in rw next (ap (λ (ys : List ℕ). x ∷ ys) (take_next xs k c e))

shown : (mark : ℕ) (behind : List ℕ) → is_part_mark mark ≡ true → closes_part (prefix_len is_inner behind) (91 ∷ mark ∷ behind) ≡ true → HasNamedPart (91 ∷ mark ∷ behind) (named_size (91 ∷ mark ∷ behind))
shown mark behind is_mark closes =
    let two : prefix_len is_inner behind + 2 ≡ suc (suc (prefix_len is_inner behind)) = omega arith in
    let both = and_true (begins_with 93 (drop (prefix_len is_inner behind + 2) (91 ∷ mark ∷ behind)) && nat_lt 0 (prefix_len is_inner behind)) (slice_index_or (91 ∷ mark ∷ behind) (prefix_len is_inner behind + 1) 0 == mark) closes in
    let first = and_true (begins_with 93 (drop (prefix_len is_inner behind + 2) (91 ∷ mark ∷ behind))) (nat_lt 0 (prefix_len is_inner behind)) both.0 in
    let some : 0 < prefix_len is_inner behind = ltb-true 0 (prefix_len is_inner behind) first.1 in
    let closed : has_at behind (prefix_len is_inner behind) 93 ≡ true = sym (ap (λ (k : ℕ). begins_with 93 (drop k (91 ∷ mark ∷ behind))) two) ∙ first.0 in
    let next : prefix_len is_inner behind + 1 ≡ suc (suc (prefix_len is_inner behind - 1)) = omega (arith, some) in
    let again : slice_index_or behind (prefix_len is_inner behind - 1) 0 ≡ mark = sym (ap (λ (k : ℕ). slice_index_or (91 ∷ mark ∷ behind) k 0) next) ∙ eqb-true (slice_index_or (91 ∷ mark ∷ behind) (prefix_len is_inner behind + 1) 0) mark both.1 in
    let le = prefix_len-le-length is_inner behind in
    let got : slice_get behind (prefix_len is_inner behind - 1) ≡ Some mark = slice_get-get_or behind (prefix_len is_inner behind - 1) 0 (omega (arith, some, le)) ∙ ap (λ (c : ℕ). Some c) again in
    let one : prefix_len is_inner behind - 1 + 1 ≡ prefix_len is_inner behind = omega (arith, some) in
    let name_mark : take (prefix_len is_inner behind) behind ≡ take (prefix_len is_inner behind - 1) behind ++ mark ∷ [] = ap (λ (j : ℕ). take j behind) (sym one) ∙ take_next behind (prefix_len is_inner behind - 1) mark got in
    let whole : behind ≡ (take (prefix_len is_inner behind - 1) behind ++ mark ∷ 93 ∷ []) ++ drop (prefix_len is_inner behind + 1) behind =
    split_run is_inner behind 93 closed ∙ ap (λ (xs : List ℕ). xs ++ 93 ∷ drop (prefix_len is_inner behind + 1) behind) name_mark
    ∙ append_assoc (take (prefix_len is_inner behind - 1) behind) (mark ∷ []) (93 ∷ drop (prefix_len is_inner behind + 1) behind)
    ∙ sym (append_assoc (take (prefix_len is_inner behind - 1) behind) (mark ∷ 93 ∷ []) (drop (prefix_len is_inner behind + 1) behind)) in
    let count : named_size (91 ∷ mark ∷ behind) ≡ prefix_len is_inner behind + 3 = size_by mark behind (prefix_len is_inner behind) is_mark refl closes in
    record {
      mark = mark;
      name = take (prefix_len is_inner behind - 1) behind;
      is_mark = is_mark;
      inner = run-passes is_inner (prefix_len is_inner behind - 1) behind (omega arith);
      shown = record {
        rest = drop (prefix_len is_inner behind + 1) behind;
        is = ap (λ (xs : List ℕ). 91 ∷ mark ∷ xs) whole;
        size = omega (arith, count, length-append (take (prefix_len is_inner behind - 1) behind) (mark ∷ 93 ∷ []), length-take (prefix_len is_inner behind - 1) behind, le, some);
      };
    }

shown_by : (text : List ℕ) → is_named_part text ≡ true → HasNamedPart text (named_size text)
shown_by [] e = absurd (false≢true e)
shown_by (b ∷ []) e =
    let both = and_true (opens_part (b ∷ [])) (closes_part (part_len (b ∷ [])) (b ∷ [])) e in
    absurd (false≢true ((and_true (b == 91) false both.0).1))
shown_by (b ∷ mark ∷ behind) e =
    let both = and_true (opens_part (b ∷ mark ∷ behind)) (closes_part (part_len (b ∷ mark ∷ behind)) (b ∷ mark ∷ behind)) e in
    let opens = and_true (b == 91) (is_part_mark mark) both.0 in
    let same : b ≡ 91 = eqb-true b 91 opens.0 in
    subst (λ (z : ℕ). HasNamedPart (z ∷ mark ∷ behind) (named_size (z ∷ mark ∷ behind))) (sym same)
    (shown mark behind opens.1 (subst (λ (z : ℕ). closes_part (prefix_len is_inner behind) (z ∷ mark ∷ behind) ≡ true) same both.1))

pub named_by_text : (text : List ℕ) → IsNamedByText text
named_by_text text = record { told = told text; only = λ some. shown_by text (if_positive (is_named_part text) (part_len text + 3) some) }
