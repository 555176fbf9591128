-- The patterns of the generated lex file have few sets of positions: that of a text is told by a small number.
use Rattle.std.proofs.Common.{◌≡◌, ℕ, zero, suc, ◌+◌, ◌-◌, ◌*◌, ◌<◌, ◌≤◌, Bool, true, cond, eqb, List, [], ◌∷◌, ◌++◌, length, map, take, refl, sym, ap, subst, ◌∙◌, inl, inr, arith, append-nil, Some}
use Rattle.std.specs.Prelude.{Contains, slice_get, decimal}
use Rattle.std.specs.List.{AllByRecursion, list_all}
use Rattle.std.proofs.lemmas.Bool.{false≢true, cases_lt, eqb-true}
use Rattle.std.proofs.lemmas.Bool.Decides.{nat_tests}
use Rattle.std.proofs.lemmas.List.{length-map}
use Rattle.cs_bytes.specs.Classes.{is_digit}
use Rattle.cs_bytes.proofs.Fronts.{and_true}
use Rattle.cs_pattern_parts.specs.Items.Members.{picked}
use Rattle.cs_pattern_parts.specs.Items.Spelling.{one_byte}
use Rattle.cs_pattern_parts.proofs.OnItems.Picked.{has_picked, has_picked_above, contains-has, has-contains}
use Rattle.cs_pattern.specs.Operations.Grammar.{piece_parts}
use Rattle.cs_pattern.specs.Operations.Depth.{pattern_of}
use Rattle.cs_pattern_parts.specs.Tree.Pattern.{Regex, Empty}
use Rattle.cs_scanner.specs.Automaton.Counted.{HaveOneSet, IsAbove}
use Rattle.cs_scanner.specs.Automaton.Meaning.{re, cat_of, res}
use Rattle.cs_scanner.specs.Automaton.Places.{NumberedClass, letters, with_places, any_of, whole, Itself, HasByte, ReadEach, InSet}
use Rattle.cs_scanner.specs.Automaton.Re.{Re, letter, Parts, no_parts, one_more, Spells}
use Rattle.cs_scanner.proofs.OnAutomaton.Numbers.{few_numbers}
use Rattle.cs_gen.proofs.TokenPatterns.{tree_of, branch_of, spacing, is_spacing, spacing_tree}
use Rattle.cs_gen.proofs.LexAccepted.{patterns_of, AreFew}
use Rattle.cs_gen.proofs.Digits.{decimal_passes, short_decimal}

-- ---- members of picked sets

picked_passes : (t : ℕ → Bool) (b : ℕ) → Contains (picked t 256) b → t b ≡ true
picked_passes t b c =
    elim (cases_lt b 256) [
      | inl lt ↦ sym (has_picked t 256 b lt) ∙ contains-has (picked t 256) b c
      | inr ge ↦ absurd (false≢true (sym (has_picked_above t 256 b ge) ∙ contains-has (picked t 256) b c))
    ]

-- ---- the words of places of a name

abbrev AreClassesOf : List NumberedClass → List ℕ → Type 0
AreClassesOf [] [] = Unit {0}
AreClassesOf [] (b ∷ bs) = ⊥
AreClassesOf (a ∷ w) [] = ⊥
AreClassesOf (a ∷ w) (b ∷ bs) = (a.class ≡ one_byte b) × AreClassesOf w bs

abbrev no_names : List ℕ → Regex
no_names name = Empty

letter_word : (rule from b : ℕ) (w : List NumberedClass) → Spells Itself (with_places rule from (letter (one_byte b))) w → (a : NumberedClass) × (a.class ≡ one_byte b) × (w ≡ a ∷ [])
letter_word rule from b w h = (h.0, ap (λ (p : NumberedClass). p.class) h.1, h.2)

joined_end : (x y w : List NumberedClass) (a : NumberedClass) → w ≡ x ++ y → x ≡ a ∷ [] → y ≡ [] → w ≡ a ∷ []
joined_end x y w a e f g = e ∙ rw (f, g) refl

joined_more : (x y w : List NumberedClass) (a : NumberedClass) → w ≡ x ++ y → x ≡ a ∷ [] → w ≡ a ∷ y
joined_more x y w a e f = e ∙ rw f refl

joined_word : (rule from b : ℕ) (cs : List ℕ) (w : List NumberedClass) → Spells Itself (with_places rule from (cat_of (piece_parts no_names (branch_of b cs)))) w → AreClassesOf w (b ∷ cs)
joined_word rule from b [] w h =
    let one = letter_word rule from b h.0 h.2 in
    let is = joined_end h.0 h.1 w one.0 h.4 one.2 h.3 in
    subst (λ (v : List NumberedClass). AreClassesOf v (b ∷ [])) (sym is) (one.1, tt)
joined_word rule from b (c ∷ cs) w h =
    let one = letter_word rule from b h.0 h.2 in
    let rest = joined_word rule (from + 1) c cs h.1 h.3 in
    let is = joined_more h.0 h.1 w one.0 h.4 one.2 in
    subst (λ (v : List NumberedClass). AreClassesOf v (b ∷ c ∷ cs)) (sym is) (one.1, rest)

abbrev token_re : ℕ → List ℕ → Re (List ℕ)
token_re b cs = re (pattern_of (tree_of b cs))

token_word : (rule from b : ℕ) (cs : List ℕ) (w : List NumberedClass) → Spells Itself (with_places rule from (token_re b cs)) w → AreClassesOf w (b ∷ cs)
token_word rule from b [] w h =
    let one = letter_word rule from b w h in
    subst (λ (v : List NumberedClass). AreClassesOf v (b ∷ [])) (sym one.2) (one.1, tt)
token_word rule from b (c ∷ []) w h = joined_word rule from b (c ∷ []) w h
token_word rule from b (c ∷ d ∷ ds) w h = joined_word rule from b (c ∷ d ∷ ds) w h

-- what its front reads
reads_front : (u rest : List NumberedClass) (bs x : List ℕ) → AreClassesOf (u ++ rest) bs → ReadEach HasByte u x → x ≡ take (length u) bs
reads_front [] rest bs x is h = h
reads_front (a ∷ u) rest [] x is h = absurd is
reads_front (a ∷ u) rest (b ∷ bs) [] is h = absurd h
reads_front (a ∷ u) rest (b ∷ bs) (c ∷ x) is h =
    let there : Contains (one_byte b) c = subst (λ (s : List ℕ). Contains s c) is.0 h.0 in
    let same : c ≡ b = eqb-true c b (picked_passes (λ (d : ℕ). eqb d b) c there) in
    rw (same, reads_front u rest bs x is.1 h.1) refl

-- ---- the words of places of spaces and newlines

abbrev spacing_re : Re (List ℕ)
spacing_re = re (pattern_of spacing_tree)

abbrev place_at : ℕ → ℕ → NumberedClass
place_at rule from = record { number = from; rule = rule; class = spacing }

abbrev AreAll : NumberedClass → List NumberedClass → Type 0
AreAll p = AllByRecursion (λ a. a ≡ p)

parts_same : (p : NumberedClass) (ws : List NumberedClass) → Parts (λ (x : List NumberedClass). (b : NumberedClass) × (b ≡ p) × (x ≡ b ∷ [])) ws → AreAll p ws
parts_same p ws no_parts = tt
parts_same p ws (one_more x y xs h more e) =
    let is : ws ≡ p ∷ y = e ∙ rw (h.2, h.1) refl in
    subst (AreAll p) (sym is) (refl, parts_same p y more)

-- one place, and then the next any number of times
spacing_word : (rule from : ℕ) (w : List NumberedClass) → Spells Itself (with_places rule from spacing_re) w → (ws : List NumberedClass) × (w ≡ place_at rule from ∷ ws) × AreAll (place_at rule (from + 1)) ws
spacing_word rule from w h =
    let first : h.0 ≡ place_at rule from ∷ [] = h.2.2 ∙ ap (λ (a : NumberedClass). a ∷ []) h.2.1 in
    let many = h.3.2 in
    let rest : h.1 ≡ h.3.0 = h.3.4 ∙ rw h.3.3 (append-nil h.3.0) in
    (h.1, h.4 ∙ rw first refl, subst (AreAll (place_at rule (from + 1))) (sym rest) (parts_same (place_at rule (from + 1)) h.3.0 many))

front_same : (p : NumberedClass) (u rest ws : List NumberedClass) → u ++ rest ≡ ws → AreAll p ws → AreAll p u
front_same p [] rest ws e h = tt
front_same p (a ∷ u) rest ws e h = let g : AreAll p (a ∷ (u ++ rest)) = subst (AreAll p) (sym e) h in (g.0, front_same p u rest (u ++ rest) refl g.1)

last_same : (p : NumberedClass) (u : List NumberedClass) (last : NumberedClass) → AreAll p (u ++ last ∷ []) → last ≡ p
last_same p [] last h = h.0
last_same p (a ∷ u) last h = last_same p u last h.1

reads_spacing : (p : NumberedClass) (u : List NumberedClass) (x : List ℕ) → p.class ≡ spacing → AreAll p u → ReadEach HasByte u x → (list_all is_spacing x ≡ true) × (length x ≡ length u)
reads_spacing p [] x e h r = rw r (refl, refl)
reads_spacing p (a ∷ u) [] e h r = absurd r
reads_spacing p (a ∷ u) (c ∷ x) e h r =
    let there : Contains spacing c = subst (λ (s : List ℕ). Contains s c) (ap (λ (q : NumberedClass). q.class) h.0 ∙ e) r.0 in
    let rest = reads_spacing p u x e h.1 r.1 in
    (rw (picked_passes is_spacing c there) rest.0, ap suc rest.1)

-- the number of the last place that such a text reads
abbrev number_in : ℕ → List ℕ → ℕ
number_in from [] = from
number_in from (c ∷ []) = from
number_in from (c ∷ d ∷ x) = from + 1

-- ---- what a text is that has numbers

data Shape (from : ℕ) (x : List ℕ) (p : ℕ) : Type 0 where
  of_token : (ds : List ℕ) → x ≡ 116 ∷ ds → list_all is_digit ds ≡ true → length ds ≤ 2 → Shape from x p
  of_spacing : (c : ℕ) (rest : List ℕ) → x ≡ c ∷ rest → list_all is_spacing x ≡ true → p ≡ number_in from x → Shape from x p

all_taken : (t : ℕ → Bool) (k : ℕ) (xs : List ℕ) → list_all t xs ≡ true → list_all t (take k xs) ≡ true
all_taken t zero xs h = refl
all_taken t (suc k) [] h = refl
all_taken t (suc k) (x ∷ xs) h = let both = and_true (t x) (list_all t xs) h in rw both.0 (all_taken t k xs both.1)

few_taken : (k : ℕ) (xs : List ℕ) → length (take k xs) ≤ length xs
few_taken zero xs = omega arith
few_taken (suc k) [] = omega arith
few_taken (suc k) (x ∷ xs) = omega (arith, few_taken k xs)

some_read : (front : List NumberedClass) (last : NumberedClass) → length (front ++ last ∷ []) ≡ suc (length front)
some_read [] last = refl
some_read (a ∷ front) last = ap suc (some_read front last)

digit_byte : (d : ℕ) → d < 10 → is_digit (48 + d) ≡ true
digit_byte d lt = grind (arith, nat_tests)

token_shape : (at from rule number : ℕ) (x : List ℕ) (p : ℕ) (front : List NumberedClass) (last : NumberedClass) (rest : List NumberedClass) → number ≤ 24 → Spells Itself (with_places rule from (token_re 116 (decimal number))) ((front ++ last ∷ []) ++ rest)
    → ReadEach HasByte (front ++ last ∷ []) x → Shape at x p
token_shape at from rule number x p front last rest le h r =
    let is = reads_front (front ++ last ∷ []) rest (116 ∷ decimal number) x (token_word rule from 116 (decimal number) ((front ++ last ∷ []) ++ rest) h) r in
    let e : x ≡ 116 ∷ take (length front) (decimal number) = is ∙ ap (λ (k : ℕ). take k (116 ∷ decimal number)) (some_read front last) in
    of_token (take (length front) (decimal number)) e (all_taken is_digit (length front) (decimal number) (decimal_passes is_digit digit_byte number (omega arith))) (omega (arith, few_taken (length front) (decimal number), short_decimal number 24 le (omega arith)))

spacing_shape : (rule from : ℕ) (x : List ℕ) (p : ℕ) (front : List NumberedClass) (last : NumberedClass) (rest : List NumberedClass) → Spells Itself (with_places rule from spacing_re) ((front ++ last ∷ []) ++ rest) → ReadEach HasByte (front ++ last ∷ []) x → last.number ≡ p → Shape from x p
spacing_shape rule from x p [] last rest h r n =
    let w = spacing_word rule from (last ∷ rest) h in
    let is : last ≡ place_at rule from = heads last (place_at rule from) rest w.0 w.1 in
    one x r is
  where
    heads : (a b : NumberedClass) (us ws : List NumberedClass) → a ∷ us ≡ b ∷ ws → a ≡ b
    heads a b us ws e = cc

    one : (x : List ℕ) → ReadEach HasByte (last ∷ []) x → last ≡ place_at rule from → Shape from x p
    one [] r is = absurd r
    one (c ∷ d ∷ y) r is = let none : d ∷ y ≡ [] = r.1 in absurd cc
    one (c ∷ []) r is =
        let there : Contains spacing c = subst (λ (s : List ℕ). Contains s c) (ap (λ (q : NumberedClass). q.class) is) r.0 in
        of_spacing c [] refl (rw (picked_passes is_spacing c there) refl) (sym n ∙ ap (λ (q : NumberedClass). q.number) is)
spacing_shape rule from [] p (a ∷ front) last rest h r n = absurd r
spacing_shape rule from (c ∷ x) p (a ∷ front) last rest h r n =
    let w = spacing_word rule from ((a ∷ (front ++ last ∷ [])) ++ rest) h in
    let is : a ≡ place_at rule from = heads a (place_at rule from) ((front ++ last ∷ []) ++ rest) w.0 w.1 in
    let tails : (front ++ last ∷ []) ++ rest ≡ w.0 = tail a (place_at rule from) ((front ++ last ∷ []) ++ rest) w.0 w.1 in
    let next = place_at rule (from + 1) in
    let all = front_same next (front ++ last ∷ []) rest w.0 tails w.2 in
    let there : Contains spacing c = subst (λ (s : List ℕ). Contains s c) (ap (λ (q : NumberedClass). q.class) is) r.0 in
    let behind = reads_spacing next (front ++ last ∷ []) x refl all r.1 in
    let end : last ≡ next = last_same next front last all in
    more x (rw (picked_passes is_spacing c there) behind.0) (omega (arith, behind.1, some_read front last)) (sym n ∙ ap (λ (q : NumberedClass). q.number) end)
  where
    heads : (a b : NumberedClass) (us ws : List NumberedClass) → a ∷ us ≡ b ∷ ws → a ≡ b
    heads a b us ws e = cc

    tail : (a b : NumberedClass) (us ws : List NumberedClass) → a ∷ us ≡ b ∷ ws → us ≡ ws
    tail a b us ws e = cc

    more : (x : List ℕ) → list_all is_spacing (c ∷ x) ≡ true → 0 < length x → p ≡ from + 1 → Shape from (c ∷ x) p
    more [] h lt e = absurd (omega arith)
    more (d ∷ y) h lt e = of_spacing c (d ∷ y) refl h e

-- where the classes of the last rule are with_places from
abbrev last_from : ℕ → List ℕ → ℕ
last_from from [] = from
last_from from (number ∷ numbers) = last_from (from + letters (token_re 116 (decimal number))) numbers

shape_of : (numbers : List ℕ) → AreFew numbers → (rule from : ℕ) (x : List ℕ) (p : ℕ) (front : List NumberedClass) (last : NumberedClass) (rest : List NumberedClass) → Spells Itself (any_of rule from (res (patterns_of numbers))) ((front ++ last ∷ []) ++ rest)
    → ReadEach HasByte (front ++ last ∷ []) x → last.number ≡ p → Shape (last_from from numbers) x p
shape_of [] few rule from x p front last rest (inl h) r n = spacing_shape rule from x p front last rest h r n
shape_of [] few rule from x p front last rest (inr h) r n = absurd h
shape_of (number ∷ numbers) few rule from x p front last rest (inl h) r n = token_shape (last_from from (number ∷ numbers)) from rule number x p front last rest few.0 h r
shape_of (number ∷ numbers) few rule from x p front last rest (inr h) r n = shape_of numbers few.1 (suc rule) (from + letters (token_re 116 (decimal number))) x p front last rest h r n

-- ---- each text of spaces and newlines has such a number

copies : ℕ → NumberedClass → List NumberedClass
copies zero p = []
copies (suc n) p = p ∷ copies n p

copies_parts : (n : ℕ) (p : NumberedClass) → Parts (λ (x : List NumberedClass). (b : NumberedClass) × (b ≡ p) × (x ≡ b ∷ [])) (copies n p)
unfolding copies
copies_parts zero p = no_parts
copies_parts (suc n) p = one_more (p ∷ []) (copies n p) (p ∷ copies n p) (p, refl, refl) (copies_parts n p) refl

copies_push : (n : ℕ) (p : NumberedClass) → copies n p ++ p ∷ [] ≡ copies (suc n) p
unfolding copies
copies_push zero p = refl
copies_push (suc n) p = ap (λ (x : List NumberedClass). p ∷ x) (copies_push n p)

has_spacing : (c : ℕ) → is_spacing c ≡ true → Contains spacing c
has_spacing c h = let lt : c < 256 = grind (arith, nat_tests) in has-contains spacing c (has_picked is_spacing 256 c lt ∙ h)

reads_copies : (p : NumberedClass) (x : List ℕ) → p.class ≡ spacing → list_all is_spacing x ≡ true → ReadEach HasByte (copies (length x) p) x
unfolding copies
reads_copies p [] e h = refl
reads_copies p (c ∷ x) e h = let both = and_true (is_spacing c) (list_all is_spacing x) h in (subst (λ (s : List ℕ). Contains s c) (sym e) (has_spacing c both.0), reads_copies p x e both.1)

-- a word of places that reads the text
record Read (rule from : ℕ) (r : Re NumberedClass) (x : List ℕ) (p : ℕ) : Type 0 where
  front : List NumberedClass
  last : NumberedClass
  word : Spells Itself r (front ++ last ∷ [])
  read : ReadEach HasByte (front ++ last ∷ []) x
  number : last.number ≡ p

spacing_read : (rule from c : ℕ) (x : List ℕ) → list_all is_spacing (c ∷ x) ≡ true → Read rule from (with_places rule from spacing_re) (c ∷ x) (number_in from (c ∷ x))
unfolding copies
spacing_read rule from c [] h =
    let both = and_true (is_spacing c) true h in
    let p = place_at rule from in
    record { front = []; last = p; word = (p ∷ [], [], (p, refl, refl), ([], [], no_parts, refl, refl), refl); read = (has_spacing c both.0, refl); number = refl }
spacing_read rule from c (d ∷ x) h =
    let both = and_true (is_spacing c) (list_all is_spacing (d ∷ x)) h in
    let p = place_at rule from in
    let next = place_at rule (from + 1) in
    let many = copies (length (d ∷ x)) next in
    let pushed : copies (length x) next ++ next ∷ [] ≡ many = copies_push (length x) next in
    record {
      front = p ∷ copies (length x) next;
      last = next;
      word = (p ∷ [], copies (length x) next ++ next ∷ [], (p, refl, refl), (many, [], copies_parts (length (d ∷ x)) next, refl, pushed ∙ sym (append-nil many)), refl);
      read = (has_spacing c both.0, subst (λ (u : List NumberedClass). ReadEach HasByte u (d ∷ x)) (sym pushed) (reads_copies next (d ∷ x) refl both.1));
      number = refl;
    }

any_read : (numbers : List ℕ) (rule from c : ℕ) (x : List ℕ) → list_all is_spacing (c ∷ x) ≡ true → Read rule from (any_of rule from (res (patterns_of numbers))) (c ∷ x) (number_in (last_from from numbers) (c ∷ x))
any_read [] rule from c x h = let r = spacing_read rule from c x h in record { front = r.front; last = r.last; word = inl r.word; read = r.read; number = r.number }
any_read (number ∷ numbers) rule from c x h =
    let r = any_read numbers (suc rule) (from + letters (token_re 116 (decimal number))) c x h in
    record { front = r.front; last = r.last; word = inr r.word; read = r.read; number = r.number }

-- ---- the number of a text

abbrev spacing_code : List ℕ → ℕ
spacing_code [] = 0
spacing_code (d ∷ x) = 1

abbrev token_code : List ℕ → ℕ
token_code [] = 2
token_code (d ∷ []) = 3 + (d - 48)
token_code (d ∷ e ∷ x) = 13 + 10 * (d - 48) + (e - 48)

abbrev code : List ℕ → ℕ
code [] = 0
code (c ∷ x) = cond (is_spacing c) (spacing_code x) (token_code x)

digit_from : (d : ℕ) → is_digit d ≡ true → 48 ≤ d
digit_from d h = grind (arith, nat_tests)

digit_to : (d : ℕ) → is_digit d ≡ true → d ≤ 57
digit_to d h = grind (arith, nat_tests)

-- the digit above `0`
digit_at : (d : ℕ) → is_digit d ≡ true → (n : ℕ) × (d ≡ 48 + n) × (n < 10)
digit_at d h = let a = digit_from d h in let b = digit_to d h in (d - 48, omega arith, omega arith)

two_digits : (a b c d : ℕ) → a < 10 → b < 10 → c < 10 → d < 10 → 10 * a + b ≡ 10 * c + d → (a ≡ c) × (b ≡ d)
two_digits a b c d p q r s e = let same : a ≡ c = omega arith in (same, omega arith)

token_small : (ds : List ℕ) → list_all is_digit ds ≡ true → (2 ≤ token_code ds) × (token_code ds < 113)
token_small [] h = (omega arith, omega arith)
token_small (d ∷ []) h = let both = and_true (is_digit d) true h in let a = digit_to d both.0 in (omega arith, omega arith)
token_small (d ∷ e ∷ x) h =
    let both = and_true (is_digit d) (list_all is_digit (e ∷ x)) h in
    let next = and_true (is_digit e) (list_all is_digit x) both.1 in
    let a = digit_to d both.0 in
    let b = digit_to e next.0 in
    (omega arith, omega arith)

same_token : (ds es : List ℕ) → list_all is_digit ds ≡ true → list_all is_digit es ≡ true → length ds ≤ 2 → length es ≤ 2 → token_code ds ≡ token_code es → ds ≡ es
same_token [] [] g h a b e = refl
same_token [] (f ∷ []) g h a b e = absurd (omega arith)
same_token [] (f ∷ i ∷ y) g h a b e = absurd (omega arith)
same_token (d ∷ []) [] g h a b e = absurd (omega arith)
same_token (d ∷ []) (f ∷ []) g h a b e =
    let p = digit_from d ((and_true (is_digit d) true g).0) in
    let q = digit_from f ((and_true (is_digit f) true h).0) in
    let same : d ≡ f = omega arith in rw same refl
same_token (d ∷ []) (f ∷ i ∷ y) g h a b e = let p = digit_to d ((and_true (is_digit d) true g).0) in absurd (omega arith)
same_token (d ∷ c ∷ x) [] g h a b e = absurd (omega arith)
same_token (d ∷ c ∷ x) (f ∷ []) g h a b e = let p = digit_to f ((and_true (is_digit f) true h).0) in absurd (omega arith)
same_token (d ∷ c ∷ []) (f ∷ i ∷ []) g h a b e =
    let p = and_true (is_digit d) (list_all is_digit (c ∷ [])) g in
    let q = and_true (is_digit c) true p.1 in
    let r = and_true (is_digit f) (list_all is_digit (i ∷ [])) h in
    let s = and_true (is_digit i) true r.1 in
    let m = digit_at d p.0 in
    let n = digit_at c q.0 in
    let k = digit_at f r.0 in
    let l = digit_at i s.0 in
    let sum : 10 * m.0 + n.0 ≡ 10 * k.0 + l.0 = omega (arith, e, m.1, n.1, k.1, l.1) in
    let both = two_digits m.0 n.0 k.0 l.0 m.2 n.2 k.2 l.2 sum in
    let first : d ≡ f = omega (arith, m.1, k.1, both.0) in
    let second : c ≡ i = omega (arith, n.1, l.1, both.1) in
    rw (first, second) refl
same_token (d ∷ c ∷ z ∷ x) (f ∷ i ∷ y) g h a b e = absurd (omega arith)
same_token (d ∷ c ∷ []) (f ∷ i ∷ z ∷ y) g h a b e = absurd (omega arith)

same_spacing_number : (from c d : ℕ) (x y : List ℕ) → spacing_code x ≡ spacing_code y → number_in from (c ∷ x) ≡ number_in from (d ∷ y)
same_spacing_number from c d [] [] e = refl
same_spacing_number from c d [] (f ∷ y) e = absurd (omega arith)
same_spacing_number from c d (f ∷ x) [] e = absurd (omega arith)
same_spacing_number from c d (f ∷ x) (g ∷ y) e = refl

spacing_small : (x : List ℕ) → spacing_code x ≤ 1
spacing_small [] = omega arith
spacing_small (d ∷ x) = omega arith

-- ---- few sets

text_at : (texts : List (List ℕ)) (k n : ℕ) → slice_get (map code texts) k ≡ Some n → (x : List ℕ) × (slice_get texts k ≡ Some x) × (code x ≡ n)
text_at [] k n e = absurd cc
text_at (x ∷ texts) zero n e = (x, refl, cc)
text_at (x ∷ texts) (suc k) n e = text_at texts k n e

module _ (numbers : List ℕ) (small_numbers : AreFew numbers) where
  abbrev all_res : List (Re (List ℕ))
  all_res = res (patterns_of numbers)

  abbrev from_last : ℕ
  from_last = last_from 0 numbers

  shape_in : (x : List ℕ) (p : ℕ) → InSet all_res x p → Shape from_last x p
  shape_in x p s = shape_of numbers small_numbers 1 0 x p s.front s.last s.rest s.word s.read s.number

  spacing_in : (c : ℕ) (x : List ℕ) → list_all is_spacing (c ∷ x) ≡ true → InSet all_res (c ∷ x) (number_in from_last (c ∷ x))
  spacing_in c x h =
      let r = any_read numbers 1 0 c x h in
      record { front = r.front; last = r.last; rest = []; word = subst (λ (w : List NumberedClass). Spells Itself (whole all_res) w) (sym (append-nil (r.front ++ r.last ∷ []))) r.word; read = r.read; number = r.number }

  code_small : (x : List ℕ) (p : ℕ) → Shape from_last x p → code x < 113
  code_small x p (of_token ds e all few) = rw e (token_small ds all).1
  code_small x p (of_spacing c rest e all n) = by_code x e all
    where
      by_code : (x : List ℕ) → x ≡ c ∷ rest → list_all is_spacing x ≡ true → code x < 113
      by_code [] e all = omega arith
      by_code (d ∷ y) e all = let first = (and_true (is_spacing d) (list_all is_spacing y) all).0 in rw first (omega (arith, spacing_small y))

  -- a text of spaces has the numbers of another one with the same code
  one_way : (c d : ℕ) (x y : List ℕ) (p : ℕ) → list_all is_spacing (c ∷ x) ≡ true → list_all is_spacing (d ∷ y) ≡ true → spacing_code x ≡ spacing_code y → InSet all_res (c ∷ x) p → InSet all_res (d ∷ y) p
  one_way c d x y p g h e s = by_shape (shape_in (c ∷ x) p s)
    where
      by_shape : Shape from_last (c ∷ x) p → InSet all_res (d ∷ y) p
      by_shape (of_token ds f all few) =
          let first = (and_true (is_spacing c) (list_all is_spacing x) g).0 in
          let is : c ≡ 116 = cc in
          let no : is_spacing 116 ≡ true = subst (λ (b : ℕ). is_spacing b ≡ true) is first in
          absurd (false≢true no)
      by_shape (of_spacing b rest f all n) = subst (λ (q : ℕ). InSet all_res (d ∷ y) q) (sym (n ∙ same_spacing_number from_last c d x y e)) (spacing_in d y h)

  one_set : (x y : List ℕ) (p q : ℕ) → Shape from_last x p → Shape from_last y q → code x ≡ code y → HaveOneSet (InSet all_res) x y
  one_set x y p q (of_token ds e a f) (of_token es g b h) same =
      let codes : token_code ds ≡ token_code es = sym (ap code e) ∙ same ∙ ap code g in
      let is : x ≡ y = e ∙ ap (λ (z : List ℕ). 116 ∷ z) (same_token ds es a b f h codes) ∙ sym g in
      λ n. (λ s. subst (λ (z : List ℕ). InSet all_res z n) is s, λ s. subst (λ (z : List ℕ). InSet all_res z n) (sym is) s)
  one_set x y p q (of_token ds e a f) (of_spacing d rest g b n) same =
      let low = token_small ds a in
      let all : list_all is_spacing (d ∷ rest) ≡ true = subst (λ (z : List ℕ). list_all is_spacing z ≡ true) g b in
      let first = (and_true (is_spacing d) (list_all is_spacing rest) all).0 in
      let right : code y ≡ spacing_code rest = ap code g ∙ rw first refl in
      absurd (omega (arith, low.0, ap code e, right, same, spacing_small rest))
  one_set x y p q (of_spacing c rest e a m) (of_token ds g b f) same =
      let low = token_small ds b in
      let all : list_all is_spacing (c ∷ rest) ≡ true = subst (λ (z : List ℕ). list_all is_spacing z ≡ true) e a in
      let first = (and_true (is_spacing c) (list_all is_spacing rest) all).0 in
      let left : code x ≡ spacing_code rest = ap code e ∙ rw first refl in
      absurd (omega (arith, low.0, ap code g, left, same, spacing_small rest))
  one_set x y p q (of_spacing c rest e a m) (of_spacing d more g b n) same =
      let all : list_all is_spacing (c ∷ rest) ≡ true = subst (λ (z : List ℕ). list_all is_spacing z ≡ true) e a in
      let every : list_all is_spacing (d ∷ more) ≡ true = subst (λ (z : List ℕ). list_all is_spacing z ≡ true) g b in
      let first = (and_true (is_spacing c) (list_all is_spacing rest) all).0 in
      let second = (and_true (is_spacing d) (list_all is_spacing more) every).0 in
      let left : code x ≡ spacing_code rest = ap code e ∙ rw first refl in
      let right : code y ≡ spacing_code more = ap code g ∙ rw second refl in
      let codes : spacing_code rest ≡ spacing_code more = sym left ∙ same ∙ right in
      λ k. (
        λ s. subst (λ (z : List ℕ). InSet all_res z k) (sym g) (one_way c d rest more k all every codes (subst (λ (z : List ℕ). InSet all_res z k) e s)),
        λ s. subst (λ (z : List ℕ). InSet all_res z k) (sym e) (one_way d c more rest k every all (sym codes) (subst (λ (z : List ℕ). InSet all_res z k) g s)),
      )

  pub few_sets : IsAbove (InSet all_res) 16384 → ⊥
  few_sets above =
      let codes = map code above.texts in
      let below : (k n : ℕ) → slice_get codes k ≡ Some n → n < 113 = λ k n e.
      let t = text_at above.texts k n e in
      let s = above.each k t.0 t.1 in
      subst (λ (m : ℕ). m < 113) t.2 (code_small t.0 s.2.0 (shape_in t.0 s.2.0 s.2.1)) in
      let apart : (j k n : ℕ) → slice_get codes j ≡ Some n → slice_get codes k ≡ Some n → j ≡ k = λ j k n d e.
      let t = text_at above.texts j n d in
      let u = text_at above.texts k n e in
      let r = above.each j t.0 t.1 in
      let s = above.each k u.0 u.1 in
      above.differ j k t.0 u.0 t.1 u.1 (one_set t.0 u.0 r.2.0 s.2.0 (shape_in t.0 r.2.0 r.2.1) (shape_in u.0 s.2.0 s.2.1) (t.2 ∙ sym u.2)) in
      let few : length codes ≤ 113 = few_numbers codes 113 apart below in
      omega (arith, few, above.many, length-map above.texts code)
