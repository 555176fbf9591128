-- The lines of a text, one after another.
use Rattle.std.proofs.Common.{◌≡◌, ℕ, ◌+◌, ◌<◌, ◌≤◌, Bool, List, [], ◌∷◌, ◌++◌, take, drop, length, get_or, refl, sym, ap, ◌∙◌, subst, ⊎_elim, eq-eqb, arith, cond}
use Rattle.std.specs.Prelude.{All, ◌≢◌, ◌==◌}
use Rattle.std.proofs.lemmas.Bool.{ne_eqb, eqb-true, false_from_ne_true, false≢true, cases_lt}
use Rattle.std.proofs.lemmas.List.{drop_more, take_more, take-append-drop, take_all, drop_all, length-take, get_or-take}
use Rattle.std.proofs.lemmas.List.Sums.{position_or_len_is, fails_before_first, passes_at_first}
use Rattle.memchr.specs.Find.{Nowhere, NoneBefore, Passes, is_byte}
use Rattle.cs_bytes.specs.Classes.{is_newline}
use Rattle.cs_bytes.specs.Places.{line_len, line_size}
use Rattle.std.proofs.lemmas.List.Elements.{All-head, All-tail}
use Rattle.cs_lines.specs.Lines.Pieces.{onto, lines_of}

-- bytes that are no newlines
abbrev pub AreInner : List ℕ → Type 0
AreInner words = All (λ b. b ≢ 10) words

other : (b : ℕ) (text : List ℕ) → b ≢ 10 → lines_of (b ∷ text) ≡ onto b (lines_of text)
other b text ne = ap (λ (c : Bool). cond c ((b ∷ []) ∷ lines_of text) (onto b (lines_of text))) (ne_eqb b 10 ne)

pub whole_line : (words rest : List ℕ) → AreInner words → lines_of (words ++ 10 ∷ rest) ≡ (words ++ 10 ∷ []) ∷ lines_of rest
whole_line [] rest h = refl
whole_line (b ∷ words) rest h =
    other b (words ++ 10 ∷ rest) (All-head (λ c. c ≢ 10) b words h)
    ∙ ap (onto b) (whole_line words rest (All-tail (λ c. c ≢ 10) b words h))

pub last_line : (b : ℕ) (words : List ℕ) → AreInner (b ∷ words) → lines_of (b ∷ words) ≡ (b ∷ words) ∷ []
last_line b [] h = other b [] (All-head (λ c. c ≢ 10) b [] h)
last_line b (c ∷ words) h =
    other b (c ∷ words) (All-head (λ d. d ≢ 10) b (c ∷ words) h)
    ∙ ap (onto b) (last_line c words (All-tail (λ d. d ≢ 10) b (c ∷ words) h))

-- the line in front, by its size
pub front_line : (text : List ℕ) (at : ℕ) (d : ℕ) → at < length text → get_or text at d ≡ 10 → AreInner (take at text) → lines_of text ≡ take (at + 1) text ∷ lines_of (drop (at + 1) text)
front_line text at d low is inner =
    let words = take at text in
    let rest = drop (at + 1) text in
    let split : words ++ 10 ∷ rest ≡ text = ap (λ (l : List ℕ). words ++ l) (ap (λ n. n ∷ rest) (sym is) ∙ sym (drop_more text at d low)) ∙ take-append-drop at text in
    let front : words ++ 10 ∷ [] ≡ take (at + 1) text = ap (λ n. words ++ n ∷ []) (sym is) ∙ sym (take_more text at d low) in
    ap lines_of (sym split) ∙ whole_line words rest inner ∙ ap (λ (l : List ℕ). l ∷ lines_of rest) front

pub only_line : (text : List ℕ) → 0 < length text → AreInner text → lines_of text ≡ take (length text) text ∷ lines_of (drop (length text) text)
only_line [] low inner = absurd (omega arith)
only_line (b ∷ words) low inner =
    last_line b words inner
    ∙ ap (λ (l : List ℕ). l ∷ []) (sym (take_all (length (b ∷ words)) (b ∷ words) (omega arith)))
    ∙ ap (λ (l : List ℕ). take (length (b ∷ words)) (b ∷ words) ∷ lines_of l) (sym (drop_all (length (b ∷ words)) (b ∷ words) (omega arith)))

-- ---- by the size that the call tells

len_inner : (text : List ℕ) → AreInner (take (line_len text) text)
len_inner text k d low same =
    let long = length-take (line_len text) text in
    let before : k < line_len text = omega arith in
    false≢true (sym (fails_before_first is_newline text k d before) ∙ eq-eqb (get_or text k d) 10 (sym (get_or-take (line_len text) text k d before) ∙ same))

len_here : (text : List ℕ) → line_len text < length text → get_or text (line_len text) 0 ≡ 10
len_here text low = eqb-true (get_or text (line_len text) 0) 10 (passes_at_first is_newline text 0 low)

pub line_in_front : (text : List ℕ) → 0 < length text → lines_of text ≡ take (line_size text) text ∷ lines_of (drop (line_size text) text)
line_in_front text some =
    ⊎_elim
    (λ (low : line_len text < length text).
    let is : line_size text ≡ line_len text + 1 = omega arith in
    front_line text (line_len text) 0 low (len_here text low) (len_inner text)
    ∙ ap (λ (n : ℕ). take n text ∷ lines_of (drop n text)) (sym is))
    (λ (past : length text ≤ line_len text).
    let is : line_size text ≡ length text = omega arith in
    only_line text some (subst AreInner (take_all (line_len text) text past) (len_inner text))
    ∙ ap (λ (n : ℕ). take n text ∷ lines_of (drop n text)) (sym is))
    (cases_lt (line_len text) (length text))

-- ---- by the place of the first newline, as a search finds it

pub len_found : (text : List ℕ) (k : ℕ) → NoneBefore (Passes (is_byte 10) text) 0 (length text) k → Passes (is_byte 10) text k → line_len text ≡ k
len_found text k before here =
    let low = before.high in
    position_or_len_is is_newline text k 0 (omega arith) (λ j lt. false_from_ne_true (get_or text j 0 == 10) (before.before j (omega arith) lt)) (λ lt. here)

pub len_none : (text : List ℕ) → Nowhere (Passes (is_byte 10) text) 0 (length text) → line_len text ≡ length text
len_none text none =
    position_or_len_is is_newline text (length text) 0 (omega arith) (λ j lt. false_from_ne_true (get_or text j 0 == 10) (none j (omega arith) lt)) (λ lt. absurd (omega arith))
