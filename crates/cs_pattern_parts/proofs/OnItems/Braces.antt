-- What stands between braces is what is read there: intervals and names.
use Rattle.std.proofs.Common.{◌≡◌, ◌≢◌, ℕ, zero, suc, ◌+◌, ◌≤◌, Bool, true, false, List, [], ◌∷◌, ◌++◌, length, length-append, append_assoc, one-add, take, drop, refl, sym, ap, ◌∙◌, arith, inl, inr, subst, ◌⊎◌}
use Rattle.std.specs.Prelude.{Option, Some, None, ◌==◌, ◌&&◌, ◌||◌, nat_le, if◌then◌else◌, slice_get}
use Rattle.std.specs.List.{prefix_len, list_all}
use Rattle.std.proofs.lemmas.Bool.{eq-eqb, eqb-true, le-leb, leb-true}
use Rattle.std.proofs.lemmas.List.{drop-drop, take_at, length-take}
use Rattle.std.proofs.lemmas.List.Sums.{prefix_len-le-length}
use Rattle.cs_bytes.proofs.Fronts.{front_got, and_true}
use Rattle.cs_bytes.proofs.Runs.{run-stops, run-passes}
use Rattle.cs_pattern_parts.specs.declared.items.item.Repetition.{Repetition}
use Rattle.cs_pattern_parts.specs.declared.items.item.Repetition.TheVariants.{Exactly, AtLeast, Between}
use Rattle.cs_bytes.specs.Classes.{is_digit, is_letter, begins_word, is_dashed_word_byte}
use Rattle.cs_bytes.specs.Places.{has_at}
use Rattle.cs_bytes.specs.Digits.{number_of}
use Rattle.cs_pattern_parts.specs.Items.Interval.{exactly, at_least, between, sized, digits, open_interval, longer, interval, name}
use Rattle.cs_pattern_parts.specs.Items.Spelling.{IsNumber, IsInterval, IsName}
use Rattle.cs_pattern_parts.proofs.OnItems.Picked.{not_equal}
use Rattle.cs_pattern_parts.proofs.OnItems.Moving.{chosen}
use Rattle.cs_pattern_parts.proofs.OnItems.Spelled.{unsome, no_some, true_or_false, differ}
use Rattle.cs_bytes.proofs.Fronts.{got_at}

-- ---- a byte behind a list

pub at_end : (xs : List ℕ) (c : ℕ) (rest : List ℕ) → slice_get (xs ++ c ∷ rest) (length xs) ≡ Some c
at_end [] c rest = refl
at_end (x ∷ xs) c rest = at_end xs c rest

pub has_at_end : (xs : List ℕ) (b c : ℕ) (rest : List ℕ) → has_at (xs ++ c ∷ rest) (length xs) b ≡ (c == b)
has_at_end [] b c rest = refl
has_at_end (x ∷ xs) b c rest = has_at_end xs b c rest

drop_end : (xs rest : List ℕ) → drop (length xs) (xs ++ rest) ≡ rest
drop_end [] rest = refl
drop_end (x ∷ xs) rest = drop_end xs rest

drop_behind : (xs : List ℕ) (c : ℕ) (rest : List ℕ) → drop (length xs + 1) (xs ++ c ∷ rest) ≡ rest
drop_behind xs c rest = sym (drop-drop 1 (length xs) (xs ++ c ∷ rest)) ∙ ap (drop 1) (drop_end xs (c ∷ rest))

pub run_then : (p : ℕ → Bool) (xs : List ℕ) (c : ℕ) (rest : List ℕ) → list_all p xs ≡ true → p c ≡ false → prefix_len p (xs ++ c ∷ rest) ≡ length xs
run_then p xs c rest all stop = run-stops p xs c rest all stop

-- ---- the interval by the size of its digits

module _ (text : List ℕ) (size : ℕ) (is : size ≡ digits text) (some : size ≢ 0) where
  no_zero : (digits text == 0) ≡ false
  no_zero = not_equal (digits text) 0 (λ z. some (is ∙ z))

  closing : (b : ℕ) (v : Bool) → has_at text size b ≡ v → has_at text (digits text) b ≡ v
  closing b v e = ap (λ k. has_at text k b) (sym is) ∙ e

  pub interval_alone : has_at text size 125 ≡ true → interval text ≡ sized (exactly (number_of 10 (take size text))) (size + 1)
  unfolding interval
  interval_alone e = let h = no_zero in let f = closing 125 true e in rw (h, f) (ap (λ k. sized (exactly (number_of 10 (take k text))) (k + 1)) (sym is))

  pub interval_comma : has_at text size 125 ≡ false → has_at text size 44 ≡ true → interval text ≡ longer (size + 1) (open_interval (number_of 10 (take size text)) (drop (size + 1) text))
  unfolding interval
  interval_comma e c =
      let h = no_zero in
      let f = closing 125 false e in
      let g = closing 44 true c in
      rw (h, f, g) (ap (λ k. longer (k + 1) (open_interval (number_of 10 (take k text)) (drop (k + 1) text))) (sym is))

  pub interval_other : has_at text size 125 ≡ false → has_at text size 44 ≡ false → interval text ≡ None
  unfolding interval
  interval_other e c = let h = no_zero in let f = closing 125 false e in let g = closing 44 false c in rw (h, f, g) refl

interval_empty : (text : List ℕ) → digits text ≡ 0 → interval text ≡ None
unfolding interval
interval_empty text z = let h : (digits text == 0) ≡ true = eq-eqb (digits text) 0 z in rw h refl

module _ (n : ℕ) (text : List ℕ) (size : ℕ) (is : size ≡ digits text) where
  open_short : has_at text size 125 ≡ true → size ≡ 0 → open_interval n text ≡ sized (at_least n) 1
  unfolding open_interval
  open_short e z =
      let f : has_at text (digits text) 125 ≡ true = ap (λ k. has_at text k 125) (sym is) ∙ e in
      let g : digits text ≡ 0 = sym is ∙ z in
      let h : (digits text == 0) ≡ true = eq-eqb (digits text) 0 g in
      let k : digits text + 1 ≡ 1 = omega (arith, g) in
      rw (f, h, k) refl

  open_long : has_at text size 125 ≡ true → size ≢ 0 → open_interval n text ≡ sized (between n (number_of 10 (take size text))) (size + 1)
  unfolding open_interval
  open_long e ne =
      let f : has_at text (digits text) 125 ≡ true = ap (λ k. has_at text k 125) (sym is) ∙ e in
      let h : (digits text == 0) ≡ false = not_equal (digits text) 0 (λ z. ne (is ∙ z)) in
      rw (f, h) (ap (λ k. sized (between n (number_of 10 (take k text))) (k + 1)) (sym is))

  open_none : has_at text size 125 ≡ false → open_interval n text ≡ None
  unfolding open_interval
  open_none e = let f : has_at text (digits text) 125 ≡ false = ap (λ k. has_at text k 125) (sym is) ∙ e in rw f refl

-- ---- the numbers

exactly_is : (n : ℕ) → 1 ≤ n → n ≤ 1000 → exactly n ≡ Some (Exactly n)
exactly_is n p q = let e = le-leb 1 n p in let f = le-leb n 1000 q in rw (e, f) refl

at_least_is : (n : ℕ) → n ≤ 1000 → at_least n ≡ Some (AtLeast n)
at_least_is n q = let f = le-leb n 1000 q in rw f refl

between_is : (n m : ℕ) → n ≤ m → 1 ≤ m → m ≤ 1000 → between n m ≡ Some (Between n m)
between_is n m o p q = let d = le-leb n m o in let e = le-leb 1 m p in let f = le-leb m 1000 q in rw (d, e, f) refl

exactly_some : (n : ℕ) (r : Repetition) → exactly n ≡ Some r → (1 ≤ n) × (n ≤ 1000) × (Exactly n ≡ r)
exactly_some n r e =
    elim (chosen (nat_le 1 n && nat_le n 1000) _ _ _ e) [
      | inl within ↦ let both = and_true (nat_le 1 n) (nat_le n 1000) within.0 in (leb-true 1 n both.0, leb-true n 1000 both.1, unsome (Exactly n) r within.1)
      | inr beyond ↦ absurd (no_some r beyond.1)
    ]

at_least_some : (n : ℕ) (r : Repetition) → at_least n ≡ Some r → (n ≤ 1000) × (AtLeast n ≡ r)
at_least_some n r e =
    elim (chosen (nat_le n 1000) _ _ _ e) [
      | inl within ↦ (leb-true n 1000 within.0, unsome (AtLeast n) r within.1)
      | inr beyond ↦ absurd (no_some r beyond.1)
    ]

between_some : (n m : ℕ) (r : Repetition) → between n m ≡ Some r → (n ≤ m) × (1 ≤ m) × (m ≤ 1000) × (Between n m ≡ r)
between_some n m r e =
    elim (chosen (nat_le n m && nat_le 1 m && nat_le m 1000) _ _ _ e) [
      | inl within ↦
          let both = and_true (nat_le n m && nat_le 1 m) (nat_le m 1000) within.0 in
          let first = and_true (nat_le n m) (nat_le 1 m) both.0 in
          (leb-true n m first.0, leb-true 1 m first.1, leb-true m 1000 both.1, unsome (Between n m) r within.1)
      | inr beyond ↦ absurd (no_some r beyond.1)
    ]

-- ---- what is an interval is read

long : (xs : List ℕ) → IsNumber xs → length xs ≢ 0
long xs p z = omega (arith, p.0, z)

pub complete_interval : (bytes rest : List ℕ) (r : Repetition) → IsInterval bytes r → interval (bytes ++ 125 ∷ rest) ≡ Some (r, length bytes + 1)
complete_interval _ rest _ (IsInterval.exactly ds p lo hi) =
    let text : List ℕ = ds ++ 125 ∷ rest in
    interval_alone (ds ++ 125 ∷ rest) (length ds) (sym (run_then is_digit ds 125 rest p.1 refl)) (long ds p) (has_at_end ds 125 125 rest)
    ∙ ap (λ (xs : List ℕ). sized (exactly (number_of 10 xs)) (length ds + 1)) (take_at ds (125 ∷ rest) (length ds) refl)
    ∙ ap (λ o. sized o (length ds + 1)) (exactly_is (number_of 10 ds) lo hi)
complete_interval _ rest _ (IsInterval.at_least ds p hi) =
    let is : (ds ++ 44 ∷ []) ++ 125 ∷ rest ≡ ds ++ 44 ∷ (125 ∷ rest) = append_assoc ds (44 ∷ []) (125 ∷ rest) in
    let size : length ds + 1 + 1 ≡ length (ds ++ 44 ∷ []) + 1 = omega (arith, length-append ds (44 ∷ [])) in
    ap interval is
    ∙ interval_comma (ds ++ 44 ∷ (125 ∷ rest)) (length ds) (sym (run_then is_digit ds 44 (125 ∷ rest) p.1 refl)) (long ds p) (has_at_end ds 125 44 (125 ∷ rest)) (has_at_end ds 44 44 (125 ∷ rest))
    ∙ ap (λ (xs : List ℕ). longer (length ds + 1) (open_interval (number_of 10 xs) (drop (length ds + 1) (ds ++ 44 ∷ (125 ∷ rest))))) (take_at ds (44 ∷ (125 ∷ rest)) (length ds) refl)
    ∙ ap (λ (xs : List ℕ). longer (length ds + 1) (open_interval (number_of 10 ds) xs)) (drop_behind ds 44 (125 ∷ rest))
    ∙ ap (longer (length ds + 1)) (open_short (number_of 10 ds) (125 ∷ rest) 0 refl refl refl ∙ ap (λ o. sized o 1) (at_least_is (number_of 10 ds) hi))
    ∙ ap (λ k. Some (AtLeast (number_of 10 ds), k)) size
complete_interval _ rest _ (IsInterval.between ds es p q le lo hi) =
    let is : (ds ++ 44 ∷ es) ++ 125 ∷ rest ≡ ds ++ 44 ∷ (es ++ 125 ∷ rest) = append_assoc ds (44 ∷ es) (125 ∷ rest) in
    let size : length ds + 1 + (length es + 1) ≡ length (ds ++ 44 ∷ es) + 1 = omega (arith, length-append ds (44 ∷ es)) in
    ap interval is
    ∙ interval_comma (ds ++ 44 ∷ (es ++ 125 ∷ rest)) (length ds) (sym (run_then is_digit ds 44 (es ++ 125 ∷ rest) p.1 refl)) (long ds p) (has_at_end ds 125 44 (es ++ 125 ∷ rest)) (has_at_end ds 44 44 (es ++ 125 ∷ rest))
    ∙ ap (λ (xs : List ℕ). longer (length ds + 1) (open_interval (number_of 10 xs) (drop (length ds + 1) (ds ++ 44 ∷ (es ++ 125 ∷ rest))))) (take_at ds (44 ∷ (es ++ 125 ∷ rest)) (length ds) refl)
    ∙ ap (λ (xs : List ℕ). longer (length ds + 1) (open_interval (number_of 10 ds) xs)) (drop_behind ds 44 (es ++ 125 ∷ rest))
    ∙ ap (longer (length ds + 1))
    (open_long (number_of 10 ds) (es ++ 125 ∷ rest) (length es) (sym (run_then is_digit es 125 rest q.1 refl)) (has_at_end es 125 125 rest) (long es q)
    ∙ ap (λ (xs : List ℕ). sized (between (number_of 10 ds) (number_of 10 xs)) (length es + 1)) (take_at es (125 ∷ rest) (length es) refl)
    ∙ ap (λ o. sized o (length es + 1)) (between_is (number_of 10 ds) (number_of 10 es) le lo hi))
    ∙ ap (λ k. Some (Between (number_of 10 ds) (number_of 10 es), k)) size

-- ---- what is read is an interval

-- the interval, and what stands behind its closing brace
pub record ReadsInterval (text : List ℕ) (r : Repetition) (n : ℕ) : Type 0 where
  pub bytes : List ℕ
  pub rest : List ℕ
  pub is : text ≡ bytes ++ 125 ∷ rest
  pub interval : IsInterval bytes r
  pub size : n ≡ length bytes + 1

sized_some : (o : Option Repetition) (m n : ℕ) (r : Repetition) → sized o m ≡ Some (r, n) → (o ≡ Some r) × (n ≡ m)
sized_some None m n r e = absurd (no_some (r, n) e)
sized_some (Some s) m n r e =
    let f : (s, m) ≡ (r, n) = unsome (s, m) (r, n) e in
    (ap (λ (p : Repetition × ℕ). Some p.0) f, sym (ap (λ (p : Repetition × ℕ). p.1) f))

-- a text with a byte behind a run of digits
pub split_run : (p : ℕ → Bool) (text : List ℕ) (b : ℕ) → has_at text (prefix_len p text) b ≡ true → text ≡ take (prefix_len p text) text ++ b ∷ drop (prefix_len p text + 1) text
split_run p text b e =
    sym (take_drop text (prefix_len p text)) ∙ ap (λ (xs : List ℕ). take (prefix_len p text) text ++ xs) (front_got text (prefix_len p text) b (got_at text (prefix_len p text) b e))
  where
    take_drop : (xs : List ℕ) (k : ℕ) → take k xs ++ drop k xs ≡ xs
    take_drop xs zero = refl
    take_drop [] (suc k) = refl
    take_drop (x ∷ xs) (suc k) = ap (λ (ys : List ℕ). x ∷ ys) (take_drop xs k)

pub length_run : (p : ℕ → Bool) (text : List ℕ) → length (take (prefix_len p text) text) ≡ prefix_len p text
length_run p text = let le = prefix_len-le-length p text in omega (arith, length-take (prefix_len p text) text)

number_run : (text : List ℕ) → digits text ≢ 0 → IsNumber (take (digits text) text)
number_run text ne = (omega (arith, length_run is_digit text, ne), run-passes is_digit (digits text) text (omega arith))

sound_open : (n : ℕ) (text : List ℕ) (r : Repetition) (m : ℕ) → open_interval n text ≡ Some (r, m)
    → ((rest : List ℕ) × (text ≡ 125 ∷ rest) × (n ≤ 1000) × (AtLeast n ≡ r) × (m ≡ 1))
    ⊎ ((es : List ℕ) × (rest : List ℕ) × (text ≡ es ++ 125 ∷ rest) × IsNumber es × (n ≤ number_of 10 es) × (1 ≤ number_of 10 es) × (number_of 10 es ≤ 1000) × (Between n (number_of 10 es) ≡ r) × (m ≡ length es + 1))
sound_open n text r m e =
    elim (true_or_false (has_at text (digits text) 125)) [
      | inl there ↦
          elim (true_or_false (digits text == 0)) [
            | inl none ↦
                let z : digits text ≡ 0 = eqb-true (digits text) 0 none in
                let got = sized_some (at_least n) 1 m r (sym (open_short n text (digits text) refl there z) ∙ e) in
                let small = at_least_some n r got.0 in
                inl (
                  drop 1 text,
                  front_got text 0 125 (got_at text 0 125 (ap (λ k. has_at text k 125) (sym z) ∙ there)),
                  small.0,
                  small.1,
                  got.1,
                )
            | inr some ↦
                let ne = differ (digits text) 0 some in
                let got = sized_some (between n (number_of 10 (take (digits text) text))) (digits text + 1) m r (sym (open_long n text (digits text) refl there ne) ∙ e) in
                let small = between_some n (number_of 10 (take (digits text) text)) r got.0 in
                inr (
                  take (digits text) text,
                  drop (digits text + 1) text,
                  split_run is_digit text 125 there,
                  number_run text ne,
                  small.0,
                  small.1,
                  small.2,
                  small.3,
                  got.1 ∙ ap (λ k. k + 1) (sym (length_run is_digit text)),
                )
          ]
      | inr missing ↦ absurd (no_some (r, m) (sym (open_none n text (digits text) refl missing) ∙ e))
    ]

longer_some : (k : ℕ) (o : Option (Repetition × ℕ)) (r : Repetition) (n : ℕ) → longer k o ≡ Some (r, n) → (m : ℕ) × (o ≡ Some (r, m)) × (n ≡ k + m)
longer_some k None r n e = absurd (no_some (r, n) e)
longer_some k (Some (s, m)) r n e =
    let f : (s, k + m) ≡ (r, n) = unsome (s, k + m) (r, n) e in
    (m, ap (λ (p : Repetition × ℕ). Some (p.0, m)) f, sym (ap (λ (p : Repetition × ℕ). p.1) f))

sound_comma : (text : List ℕ) (r : Repetition) (n : ℕ) → digits text ≢ 0 → has_at text (digits text) 44 ≡ true → longer (digits text + 1) (open_interval (number_of 10 (take (digits text) text)) (drop (digits text + 1) text)) ≡ Some (r, n) → ReadsInterval text r n
sound_comma text r n ne comma e =
    let ds : List ℕ = take (digits text) text in
    let more : List ℕ = drop (digits text + 1) text in
    let found = longer_some (digits text + 1) (open_interval (number_of 10 (take (digits text) text)) (drop (digits text + 1) text)) r n e in
    let len = length_run is_digit text in
    let is = split_run is_digit text 44 comma in
    elim (sound_open (number_of 10 (take (digits text) text)) (drop (digits text + 1) text) r found.0 found.1) [
      | inl short ↦
          record {
            bytes = take (digits text) text ++ 44 ∷ [];
            rest = short.0;
            is = is ∙ ap (λ (xs : List ℕ). take (digits text) text ++ 44 ∷ xs) short.1 ∙ sym (append_assoc (take (digits text) text) (44 ∷ []) (125 ∷ short.0));
            interval = subst (IsInterval (take (digits text) text ++ 44 ∷ [])) short.3 (IsInterval.at_least (take (digits text) text) (number_run text ne) short.2);
            size = omega (arith, found.2, short.4, len, length-append (take (digits text) text) (44 ∷ []));
          }
      | inr whole ↦
          record {
            bytes = take (digits text) text ++ 44 ∷ whole.0;
            rest = whole.1;
            is = is ∙ ap (λ (xs : List ℕ). take (digits text) text ++ 44 ∷ xs) whole.2 ∙ sym (append_assoc (take (digits text) text) (44 ∷ whole.0) (125 ∷ whole.1));
            interval = subst (IsInterval (take (digits text) text ++ 44 ∷ whole.0)) whole.7 (IsInterval.between (take (digits text) text) whole.0 (number_run text ne) whole.3 whole.4 whole.5 whole.6);
            size = omega (arith, found.2, whole.8, len, length-append (take (digits text) text) (44 ∷ whole.0));
          }
    ]

pub sound_interval : (text : List ℕ) (r : Repetition) (n : ℕ) → interval text ≡ Some (r, n) → ReadsInterval text r n
sound_interval text r n e =
    elim (true_or_false (digits text == 0)) [
      | inl none ↦ absurd (no_some (r, n) (sym (interval_empty text (eqb-true (digits text) 0 none)) ∙ e))
      | inr some ↦
          let ne = differ (digits text) 0 some in
          elim (true_or_false (has_at text (digits text) 125)) [
            | inl there ↦
                let got = sized_some (exactly (number_of 10 (take (digits text) text))) (digits text + 1) n r (sym (interval_alone text (digits text) refl ne there) ∙ e) in
                let small = exactly_some (number_of 10 (take (digits text) text)) r got.0 in
                record {
                  bytes = take (digits text) text;
                  rest = drop (digits text + 1) text;
                  is = split_run is_digit text 125 there;
                  interval = subst (IsInterval (take (digits text) text)) small.2 (IsInterval.exactly (take (digits text) text) (number_run text ne) small.0 small.1);
                  size = got.1 ∙ ap (λ k. k + 1) (sym (length_run is_digit text));
                }
            | inr missing ↦
                elim (true_or_false (has_at text (digits text) 44)) [
                  | inl comma ↦ sound_comma text r n ne comma (sym (interval_comma text (digits text) refl ne missing comma) ∙ e)
                  | inr other ↦ absurd (no_some (r, n) (sym (interval_other text (digits text) refl ne missing other) ∙ e))
                ]
          ]
    ]

-- ---- names

named_byte : (b : ℕ) → begins_word b ≡ true → is_dashed_word_byte b ≡ true
named_byte b e = rw e refl

name_run : (b : ℕ) (rest : List ℕ) → begins_word b ≡ true → has_at (b ∷ rest) (prefix_len is_dashed_word_byte (b ∷ rest)) 125 ≡ true → name (b ∷ rest) ≡ Some (take (prefix_len is_dashed_word_byte (b ∷ rest)) (b ∷ rest), prefix_len is_dashed_word_byte (b ∷ rest) + 1)
unfolding name
name_run b rest e f = ap (λ v. if v then Some (take (prefix_len is_dashed_word_byte (b ∷ rest)) (b ∷ rest), prefix_len is_dashed_word_byte (b ∷ rest) + 1) else None) (both (begins_word b) (has_at (b ∷ rest) (prefix_len is_dashed_word_byte (b ∷ rest)) 125) e f)
  where
    both : (p q : Bool) → p ≡ true → q ≡ true → (p && q) ≡ true
    both p q x y = rw (x, y) refl

pub complete_name : (bytes rest : List ℕ) → IsName bytes → name (bytes ++ 125 ∷ rest) ≡ Some (bytes, length bytes + 1)
complete_name [] rest h = absurd h
complete_name (b ∷ more) rest h =
    let first : is_dashed_word_byte b ≡ true = named_byte b h.0 in
    let all : list_all is_dashed_word_byte (b ∷ more) ≡ true = rw first h.1 in
    let run : prefix_len is_dashed_word_byte (b ∷ (more ++ 125 ∷ rest)) ≡ length (b ∷ more) = run_then is_dashed_word_byte (b ∷ more) 125 rest all refl in
    name_run b (more ++ 125 ∷ rest) h.0 (ap (λ k. has_at (b ∷ (more ++ 125 ∷ rest)) k 125) run ∙ has_at_end (b ∷ more) 125 125 rest)
    ∙ ap (λ k. Some (take k (b ∷ (more ++ 125 ∷ rest)), k + 1)) run
    ∙ ap (λ (xs : List ℕ). Some (xs, length (b ∷ more) + 1)) (take_at (b ∷ more) (125 ∷ rest) (length (b ∷ more)) refl)

pub record ReadsName (text bytes : List ℕ) (n : ℕ) : Type 0 where
  pub rest : List ℕ
  pub is : text ≡ bytes ++ 125 ∷ rest
  pub name : IsName bytes
  pub size : n ≡ length bytes + 1

name_none : name [] ≡ None
unfolding name
name_none = refl

run_next : (p : ℕ → Bool) (b : ℕ) (rest : List ℕ) → p b ≡ true → prefix_len p (b ∷ rest) ≡ suc (prefix_len p rest)
run_next p b rest e = rw e (one-add (prefix_len p rest))

is_name_run : (b : ℕ) (rest : List ℕ) → begins_word b ≡ true → IsName (take (prefix_len is_dashed_word_byte (b ∷ rest)) (b ∷ rest))
is_name_run b rest e =
    subst (λ k. IsName (take k (b ∷ rest))) (sym (run_next is_dashed_word_byte b rest (named_byte b e))) (e, run-passes is_dashed_word_byte (prefix_len is_dashed_word_byte rest) rest (omega arith))

sound_name_at : (b : ℕ) (rest bytes : List ℕ) (n : ℕ) → begins_word b ≡ true → has_at (b ∷ rest) (prefix_len is_dashed_word_byte (b ∷ rest)) 125 ≡ true
    → take (prefix_len is_dashed_word_byte (b ∷ rest)) (b ∷ rest) ≡ bytes → prefix_len is_dashed_word_byte (b ∷ rest) + 1 ≡ n → ReadsName (b ∷ rest) bytes n
sound_name_at b rest bytes n e f same size =
    subst (λ xs. ReadsName (b ∷ rest) xs n) same
    (record {
      rest = drop (prefix_len is_dashed_word_byte (b ∷ rest) + 1) (b ∷ rest);
      is = split_run is_dashed_word_byte (b ∷ rest) 125 f;
      name = is_name_run b rest e;
      size = sym size ∙ ap (λ k. k + 1) (sym (length_run is_dashed_word_byte (b ∷ rest)));
    })

name_by : (b : ℕ) (rest : List ℕ) → name (b ∷ rest) ≡ (if begins_word b && has_at (b ∷ rest) (prefix_len is_dashed_word_byte (b ∷ rest)) 125 then Some (take (prefix_len is_dashed_word_byte (b ∷ rest)) (b ∷ rest), prefix_len is_dashed_word_byte (b ∷ rest) + 1) else None)
unfolding name
name_by b rest = refl

pub sound_name : (text bytes : List ℕ) (n : ℕ) → name text ≡ Some (bytes, n) → ReadsName text bytes n
sound_name [] bytes n e = absurd (no_some (bytes, n) (sym name_none ∙ e))
sound_name (b ∷ rest) bytes n e =
    elim (chosen (begins_word b && has_at (b ∷ rest) (prefix_len is_dashed_word_byte (b ∷ rest)) 125) _ _ _ (sym (name_by b rest) ∙ e)) [
      | inl there ↦
          let both = and_true (begins_word b) (has_at (b ∷ rest) (prefix_len is_dashed_word_byte (b ∷ rest)) 125) there.0 in
          let same = unsome (take (prefix_len is_dashed_word_byte (b ∷ rest)) (b ∷ rest), prefix_len is_dashed_word_byte (b ∷ rest) + 1) (bytes, n) there.1 in
          sound_name_at b rest bytes n both.0 both.1 (ap (λ (r : List ℕ × ℕ). r.0) same) (ap (λ (r : List ℕ × ℕ). r.1) same)
      | inr missing ↦ absurd (no_some (bytes, n) missing.1)
    ]

-- a name is no interval
or_cases : (p q : Bool) → (p || q) ≡ true → (p ≡ true) ⊎ (q ≡ true)
or_cases true q e = inl refl
or_cases false q e = inr e

no_digit : (b : ℕ) → begins_word b ≡ true → is_digit b ≡ false
no_digit b e = by_test (is_digit b) refl
  where
    by_test : (v : Bool) → is_digit b ≡ v → v ≡ false
    by_test false d = refl
    by_test true d =
        let range = and_true (nat_le 48 b) (nat_le b 57) d in
        let hi : b ≤ 57 = leb-true b 57 range.1 in
        elim (or_cases (is_letter b) (b == 95) e) [
          | inl letter ↦
              elim (or_cases (nat_le 65 b && nat_le b 90) (nat_le 97 b && nat_le b 122) letter) [
                | inl upper ↦ let lo : 65 ≤ b = leb-true 65 b (and_true (nat_le 65 b) (nat_le b 90) upper).0 in absurd (omega (arith, lo, hi))
                | inr lower ↦ let lo : 97 ≤ b = leb-true 97 b (and_true (nat_le 97 b) (nat_le b 122) lower).0 in absurd (omega (arith, lo, hi))
              ]
          | inr line ↦ let is : b ≡ 95 = eqb-true b 95 line in absurd (omega (arith, is, hi))
        ]

pub name_no_interval : (bytes rest : List ℕ) → IsName bytes → interval (bytes ++ 125 ∷ rest) ≡ None
name_no_interval [] rest h = absurd h
name_no_interval (b ∷ more) rest h = let e = no_digit b h.0 in interval_empty (b ∷ (more ++ 125 ∷ rest)) (rw e refl)
