-- Words without spaces: what is joined of them has them back. Numerals are such, and each is of one number.
use Rattle.std.proofs.Common.{◌≡◌, ℕ, zero, suc, ◌+◌, ◌-◌, ◌*◌, ◌/◌, ◌%◌, ◌<◌, Bool, true, not, ◌&&◌, List, [], ◌∷◌, ◌++◌, map, refl, sym, ap, ◌∙◌, subst, arith}
use Rattle.std.specs.Prelude.{◌==◌, All, nat_lt}
use Rattle.std.proofs.lemmas.Bool.{false≢true, and_parts, and_from, not_from_false, ne_eqb, cond_both, ltb-false}
use Rattle.std.proofs.lemmas.List.Elements.{All-head, All-tail}
use Rattle.std.proofs.lemmas.Nat.{div-add-mod'}
use Rattle.cs_lines.specs.Words.Words.{digits_within, numeral, IsVisible, IsWord}
use Rattle.cs_lines.specs.Lines.Texts.{joined}

-- ---- words without spaces

abbrev pub free : List ℕ → Bool
free [] = true
free (b ∷ w) = not (b == 32) && free w

abbrev pub AreFree : List (List ℕ) → Type 0
AreFree [] = Unit {0}
AreFree (w ∷ ws) = (free w ≡ true) × AreFree ws

no_space : (b : ℕ) (w : List ℕ) → free (b ∷ w) ≡ true → b ≡ 32 → ⊥
no_space b w f e = false≢true (subst (λ c. (not (c == 32) && free w) ≡ true) e f)

others : (b : ℕ) (w : List ℕ) → free (b ∷ w) ≡ true → free w ≡ true
others b w f = (and_parts (not (b == 32)) (free w) f).1

pub first_word : (w v r s : List ℕ) → free w ≡ true → free v ≡ true → w ++ 32 ∷ r ≡ v ++ 32 ∷ s → (w ≡ v) × (r ≡ s)
first_word [] [] r s f g e = (refl, cc)
first_word [] (c ∷ v) r s f g e = absurd (no_space c v g (cc))
first_word (b ∷ w) [] r s f g e = absurd (no_space b w f (cc))
first_word (b ∷ w) (c ∷ v) r s f g e =
    let same : b ≡ c = cc in
    let rest = first_word w v r s (others b w f) (others c v g) (cc) in
    (ap (λ x. x ∷ w) same ∙ ap (λ (l : List ℕ). c ∷ l) rest.0, rest.1)

pub not_alone : (w v s : List ℕ) → free w ≡ true → w ≡ v ++ 32 ∷ s → ⊥
not_alone [] [] s f e = absurd cc
not_alone [] (c ∷ v) s f e = absurd cc
not_alone (b ∷ w) [] s f e = no_space b w f (cc)
not_alone (b ∷ w) (c ∷ v) s f e = not_alone w v s (others b w f) (cc)

pub joined_same : (w : List ℕ) (ws : List (List ℕ)) (v : List ℕ) (vs : List (List ℕ)) → AreFree (w ∷ ws) → AreFree (v ∷ vs) → joined (w ∷ ws) ≡ joined (v ∷ vs) → w ∷ ws ≡ v ∷ vs
joined_same w [] v [] f g e = ap (λ (l : List ℕ). l ∷ []) e
joined_same w [] v (v' ∷ vs) f g e = absurd (not_alone w v (joined (v' ∷ vs)) f.0 e)
joined_same w (w' ∷ ws) v [] f g e = absurd (not_alone v w (joined (w' ∷ ws)) g.0 (sym e))
joined_same w (w' ∷ ws) v (v' ∷ vs) f g e =
    let parts = first_word w v (joined (w' ∷ ws)) (joined (v' ∷ vs)) f.0 g.0 e in
    let rest = joined_same w' ws v' vs f.1 g.1 parts.1 in
    ap (λ (l : List ℕ). l ∷ w' ∷ ws) parts.0 ∙ ap (λ (l : List (List ℕ)). v ∷ l) rest

-- ---- names

visible_free : (w : List ℕ) → All IsVisible w → free w ≡ true
visible_free [] h = refl
visible_free (b ∷ w) h =
    let first = All-head IsVisible b w h in
    and_from (not (b == 32)) (free w) (not_from_false (b == 32) (ne_eqb b 32 (λ e. omega (arith, first.0, e)))) (visible_free w (All-tail IsVisible b w h))

pub word_free : (w : List ℕ) → IsWord w → free w ≡ true
word_free w h = visible_free w h.visible

pub words_free : (ws : List (List ℕ)) → All IsWord ws → AreFree ws
words_free [] h = tt
words_free (w ∷ ws) h = (word_free w (All-head IsWord w ws h), words_free ws (All-tail IsWord w ws h))

-- ---- numerals

abbrev value_from : ℕ → List ℕ → ℕ
value_from a [] = a
value_from a (d ∷ ds) = value_from (a * 10 + (d - 48)) ds

value_push : (a : ℕ) (ds : List ℕ) (d : ℕ) → value_from a (ds ++ d ∷ []) ≡ value_from a ds * 10 + (d - 48)
value_push a [] d = refl
value_push a (x ∷ ds) d = value_push (a * 10 + (x - 48)) ds d

one_digit : (n : ℕ) → value_from 0 ((48 + n) ∷ []) ≡ n
one_digit n = omega arith

more_digits : (n v : ℕ) → v ≡ n / 10 → v * 10 + (48 + n % 10 - 48) ≡ n
more_digits n v is = let whole = div-add-mod' n 10 in omega (arith, is, whole)

value_digits : (s n : ℕ) → n < s → value_from 0 (digits_within s n) ≡ n
value_digits zero n low = absurd (omega (arith, low))
value_digits (suc s) n low =
    cond_both (nat_lt n 10) ((48 + n) ∷ []) (digits_within s (n / 10) ++ (48 + n % 10) ∷ []) (λ (ds : List ℕ). value_from 0 ds ≡ n)
    (λ small. one_digit n)
    (λ big.
    let ten = ltb-false n 10 big in
    let less : n / 10 < s = omega (arith, low, ten) in
    value_push 0 (digits_within s (n / 10)) (48 + n % 10)
    ∙ more_digits n (value_from 0 (digits_within s (n / 10))) (value_digits s (n / 10) less))

pub same_numeral : (n m : ℕ) → numeral n ≡ numeral m → n ≡ m
same_numeral n m e = sym (value_digits (suc n) n (omega arith)) ∙ ap (value_from 0) e ∙ value_digits (suc m) m (omega arith)

pub same_numerals : (ns ms : List ℕ) → map numeral ns ≡ map numeral ms → ns ≡ ms
same_numerals [] [] e = refl
same_numerals [] (m ∷ ms) e = absurd cc
same_numerals (n ∷ ns) [] e = absurd cc
same_numerals (n ∷ ns) (m ∷ ms) e =
    let first : numeral n ≡ numeral m = cc in
    let rest : map numeral ns ≡ map numeral ms = cc in
    ap (λ k. k ∷ ns) (same_numeral n m first) ∙ ap (λ (l : List ℕ). m ∷ l) (same_numerals ns ms rest)

digit_free : (d : ℕ) → not (48 + d == 32) ≡ true
digit_free d = not_from_false (48 + d == 32) (ne_eqb (48 + d) 32 (λ e. omega (arith, e)))

push_free : (w : List ℕ) (d : ℕ) → free w ≡ true → free (w ++ (48 + d) ∷ []) ≡ true
push_free [] d f = and_from (not (48 + d == 32)) true (digit_free d) refl
push_free (b ∷ w) d f =
    let parts = and_parts (not (b == 32)) (free w) f in
    and_from (not (b == 32)) (free (w ++ (48 + d) ∷ [])) parts.0 (push_free w d parts.1)

digits_free : (s n : ℕ) → free (digits_within s n) ≡ true
digits_free zero n = refl
digits_free (suc s) n =
    cond_both (nat_lt n 10) ((48 + n) ∷ []) (digits_within s (n / 10) ++ (48 + n % 10) ∷ []) (λ (ds : List ℕ). free ds ≡ true)
    (λ small. push_free [] n refl)
    (λ big. push_free (digits_within s (n / 10)) (n % 10) (digits_free s (n / 10)))

pub numeral_free : (n : ℕ) → free (numeral n) ≡ true
numeral_free n = digits_free (suc n) n

pub numerals_free : (ns : List ℕ) → AreFree (map numeral ns)
numerals_free [] = tt
numerals_free (n ∷ ns) = (numeral_free n, numerals_free ns)
