-- The words that are found are the text's.
use Rattle.std.proofs.Common.{◌≡◌, ℕ, zero, suc, ◌+◌, ◌-◌, ◌<◌, ◌≤◌, Bool, true, false, cond, ◌||◌, List, [], ◌∷◌, ◌++◌, length, get_or, drop, Option, Some, None, unwrap_or, refl, sym, ap, subst, ◌∙◌, inl, inr, arith}
use Rattle.std.specs.Prelude.{IsTrue}
use Rattle.std.specs.List.{prefix_len}
use Rattle.std.proofs.lemmas.Bool.{false≢true}
use Rattle.std.proofs.lemmas.Bool.Decides.{nat_tests}
use Rattle.std.proofs.lemmas.List.{drop_more, drop_all, drop-drop}
use Rattle.cs_bytes.specs.Classes.{is_digit, is_word_byte, begins_word}
use Rattle.cs_ctext.specs.Comments.{IsOpenComment}
use Rattle.cs_ctext.specs.Quotes.{IsQuoted}
use Rattle.cs_ctext.specs.Blocks.{IsPart, comment, quoted, other}
use Rattle.cs_bytes.specs.Places.{front, IsRun}
use Rattle.cs_ctext.specs.Words.{word_at, HasWords, nothing, word, number, part, open_comment}
use Rattle.cs_ctext.specs.Scans.{part_size, piece_size, word_here, words_behind, words_of}
use Rattle.cs_ctext.specs.declared.word_iter.Word.{Word}
use Rattle.cs_bytes.proofs.Runs.{IsRun-prefix_len, run_is}
use Rattle.cs_ctext.proofs.PartSizes.{part_size-part, IsPart-from_size, IsOpenComment-from_size, part_size-open, part-not_special, opens-slash}

-- ---- one step

words_behind-drop : (skipped at : ℕ) (text : List ℕ) → words_behind skipped at text ≡ words_of (at + skipped) (drop skipped text)
words_behind-drop zero at text = ap (λ n. words_of n text) (omega arith)
words_behind-drop (suc skipped) at [] = refl
words_behind-drop (suc skipped) at (b ∷ text) =
    words_behind-drop skipped (suc at) text ∙ ap (λ n. words_of n (drop skipped text)) (omega arith)

-- the words of a text that isn't empty: the one in front, and those behind the piece in front
pub words_of-more : (at b : ℕ) (text : List ℕ) (size : ℕ) → piece_size (b ∷ text) ≡ size → 0 < size
    → words_of at (b ∷ text) ≡ word_here at b size ++ words_of (at + size) (drop size (b ∷ text))
words_of-more at b text zero e some = absurd (omega arith)
words_of-more at b text (suc size) e some =
    let less : suc size - 1 ≡ size = omega arith in
    let rest : words_behind (suc size - 1) (suc at) text ≡ words_of (at + suc size) (drop size text) =
    ap (λ n. words_behind n (suc at) text) less ∙ (words_behind-drop size (suc at) text ∙ ap (λ n. words_of n (drop size text)) (omega arith)) in
    ap (λ n. word_here at b n ++ words_behind (n - 1) (suc at) text) e ∙ ap (λ ws. word_here at b (suc size) ++ ws) rest

-- ---- the piece in front

not_word_byte : (b : ℕ) → is_word_byte b ≡ false → begins_word b ≡ false
not_word_byte b e = by_test (begins_word b) refl e
  where
    by_test : (t : Bool) → begins_word b ≡ t → (t || is_digit b) ≡ false → t ≡ false
    by_test true p f = absurd (false≢true (sym f))
    by_test false p f = refl

word_byte_from_begin : (b : ℕ) → begins_word b ≡ true → is_word_byte b ≡ true
word_byte_from_begin b e = ap (λ t. t || is_digit b) e

word_byte_from_digit : (b : ℕ) → is_digit b ≡ true → is_word_byte b ≡ true
word_byte_from_digit b e = by_test (begins_word b)
  where
    by_test : (t : Bool) → (t || is_digit b) ≡ true
    by_test true = refl
    by_test false = e

digit_begins_none : (b : ℕ) → is_digit b ≡ true → begins_word b ≡ false
digit_begins_none b e = grind (arith, nat_tests)

-- of a run
run_piece : (b : ℕ) (text : List ℕ) → is_word_byte b ≡ true → piece_size (b ∷ text) ≡ prefix_len is_word_byte (b ∷ text)
run_piece b text e = ap (λ t. cond t (prefix_len is_word_byte (b ∷ text)) (unwrap_or (part_size (b ∷ text)) (length (b ∷ text)))) e

run_some : (b : ℕ) (text : List ℕ) → is_word_byte b ≡ true → 0 < prefix_len is_word_byte (b ∷ text)
run_some b text e =
    let size : prefix_len is_word_byte (b ∷ text) ≡ 1 + prefix_len is_word_byte text = ap (λ t. cond t (1 + prefix_len is_word_byte text) 0) e in
    omega arith

-- of anything else
part_piece : (b : ℕ) (text : List ℕ) (found : Option ℕ) → is_word_byte b ≡ false → part_size (b ∷ text) ≡ found → piece_size (b ∷ text) ≡ unwrap_or found (length (b ∷ text))
part_piece b text found e f =
    ap (λ t. cond t (prefix_len is_word_byte (b ∷ text)) (unwrap_or (part_size (b ∷ text)) (length (b ∷ text)))) e
    ∙ ap (λ o. unwrap_or o (length (b ∷ text))) f

quoted_some : (text : List ℕ) (n : ℕ) → IsQuoted text n → 0 < n
quoted_some [] n h = absurd h
quoted_some (b ∷ text) n h = omega (arith, h.3)

part_some : (special : ℕ → Bool) {text : List ℕ} {n : ℕ} → IsPart special text n → 0 < n
part_some special (comment (inl h)) = omega (arith, h.ends)
part_some special (comment (inr h)) = omega (arith, h.ends)
part_some special (quoted {text = text} {n = n} h) = quoted_some text n h
part_some special (other plain opens closes) = omega arith

nothing_here : (at b size : ℕ) → begins_word b ≡ false → word_here at b size ≡ []
nothing_here at b size e = ap (λ t. cond t (word_at at size ∷ []) []) e

word_stands : (at b size : ℕ) → begins_word b ≡ true → word_here at b size ≡ word_at at size ∷ []
word_stands at b size e = ap (λ t. cond t (word_at at size ∷ []) []) e

-- ---- the words of a text are those that are found

word_more : (at n : ℕ) (text : List ℕ) (words : List Word) → IsTrue (front begins_word text) → IsRun is_word_byte text n → words ≡ words_of (at + n) (drop n text) → word_at at n ∷ words ≡ words_of at text
word_more at n [] words first run rest = absurd (false≢true first)
word_more at n (b ∷ text) words first run rest =
    let byte = word_byte_from_begin b first in
    let long = run_is is_word_byte (b ∷ text) n run in
    let size : piece_size (b ∷ text) ≡ n = run_piece b text byte ∙ sym long in
    let some : 0 < n = omega (arith, long, run_some b text byte) in
    ap (λ ws. word_at at n ∷ ws) rest ∙ sym (words_of-more at b text n size some ∙ ap (λ ws. ws ++ words_of (at + n) (drop n (b ∷ text))) (word_stands at b n first))

number_more : (at n : ℕ) (text : List ℕ) (words : List Word) → IsTrue (front is_digit text) → IsRun is_word_byte text n → words ≡ words_of (at + n) (drop n text) → words ≡ words_of at text
number_more at n [] words first run rest = absurd (false≢true first)
number_more at n (b ∷ text) words first run rest =
    let byte = word_byte_from_digit b first in
    let long = run_is is_word_byte (b ∷ text) n run in
    let size : piece_size (b ∷ text) ≡ n = run_piece b text byte ∙ sym long in
    let some : 0 < n = omega (arith, long, run_some b text byte) in
    rest ∙ sym (words_of-more at b text n size some ∙ ap (λ ws. ws ++ words_of (at + n) (drop n (b ∷ text))) (nothing_here at b n (digit_begins_none b first)))

part_more : (at n : ℕ) (text : List ℕ) (words : List Word) → IsPart is_word_byte text n → words ≡ words_of (at + n) (drop n text) → words ≡ words_of at text
part_more at zero [] words p rest = rest
part_more at (suc n) [] words p rest = rest
part_more at n (b ∷ text) words p rest =
    let byte : is_word_byte b ≡ false = part-not_special is_word_byte refl refl refl b text p in
    let size : piece_size (b ∷ text) ≡ n = part_piece b text (Some n) byte (part_size-part is_word_byte p) in
    rest ∙ sym (words_of-more at b text n size (part_some is_word_byte p) ∙ ap (λ ws. ws ++ words_of (at + n) (drop n (b ∷ text))) (nothing_here at b n (not_word_byte b byte)))

open_more : (at : ℕ) (text : List ℕ) → IsOpenComment text → [] ≡ words_of at text
open_more at [] h = refl
open_more at (b ∷ text) h =
    let byte : is_word_byte b ≡ false = ap is_word_byte (opens-slash b text h.0) in
    let size : piece_size (b ∷ text) ≡ length (b ∷ text) = part_piece b text None byte (part_size-open (b ∷ text) h) in
    sym (words_of-more at b text (length (b ∷ text)) size (omega arith)
    ∙ (ap (λ ws. ws ++ words_of (at + length (b ∷ text)) (drop (length (b ∷ text)) (b ∷ text))) (nothing_here at b (length (b ∷ text)) (not_word_byte b byte))
    ∙ ap (λ t. words_of (at + length (b ∷ text)) t) (drop_all (length (b ∷ text)) (b ∷ text) (omega arith))))

pub words_of-words : {at : ℕ} {text : List ℕ} {words : List Word} → HasWords at text words → words ≡ words_of at text
words_of-words nothing = refl
words_of-words (word {at = at} {n = n} {text = text} {words = words} first run rest) = word_more at n text words first run (words_of-words rest)
words_of-words (number {at = at} {n = n} {text = text} {words = words} first run rest) = number_more at n text words first run (words_of-words rest)
words_of-words (part {at = at} {n = n} {text = text} {words = words} p rest) = part_more at n text words p (words_of-words rest)
words_of-words (open_comment {at = at} {text = text} h) = open_more at text h

-- ---- what is found are the words of the text

step : (at b size : ℕ) (text : List ℕ) (words : List Word) → piece_size (b ∷ text) ≡ size → HasWords (at + size) (drop size (b ∷ text)) words → HasWords at (b ∷ text) (word_here at b size ++ words)
step at b size text words e rest = by_byte (is_word_byte b) refl
  where
    run_of : size ≡ prefix_len is_word_byte (b ∷ text) → IsRun is_word_byte (b ∷ text) size
    run_of run = subst (λ n. IsRun is_word_byte (b ∷ text) n) (sym run) (IsRun-prefix_len is_word_byte (b ∷ text))

    by_begin : (t : Bool) → begins_word b ≡ t → is_word_byte b ≡ true → size ≡ prefix_len is_word_byte (b ∷ text) → HasWords at (b ∷ text) (cond t (word_at at size ∷ []) [] ++ words)
    by_begin true p byte run = word p (run_of run) rest
    by_begin false p byte run = let digit : is_digit b ≡ true = sym (ap (λ t. t || is_digit b) p) ∙ byte in number digit (run_of run) rest

    by_part : (found : Option ℕ) → part_size (b ∷ text) ≡ found → is_word_byte b ≡ false → HasWords at (b ∷ text) words
    by_part None p byte =
        let all : size ≡ length (b ∷ text) = sym e ∙ part_piece b text None byte p in
        let none : words ≡ [] = words_of-words rest ∙ ap (words_of (at + size)) (drop_all size (b ∷ text) (omega arith)) in
        subst (λ ws. HasWords at (b ∷ text) ws) (sym none) (open_comment (IsOpenComment-from_size (b ∷ text) p))
    by_part (Some n) p byte =
        let same : n ≡ size = sym (part_piece b text (Some n) byte p) ∙ e in
        part (subst (λ m. IsPart is_word_byte (b ∷ text) m) same (IsPart-from_size is_word_byte b text n byte p)) rest

    by_byte : (t : Bool) → is_word_byte b ≡ t → HasWords at (b ∷ text) (word_here at b size ++ words)
    by_byte true byte = by_begin (begins_word b) refl byte (sym e ∙ run_piece b text byte)
    by_byte false byte = subst (λ ws. HasWords at (b ∷ text) (ws ++ words)) (sym (nothing_here at b size (not_word_byte b byte))) (by_part (part_size (b ∷ text)) refl byte)

-- a piece has a byte
pub piece_some : (b : ℕ) (text : List ℕ) → 0 < piece_size (b ∷ text)
piece_some b text = by_byte (is_word_byte b) refl
  where
    by_part : (found : Option ℕ) → part_size (b ∷ text) ≡ found → is_word_byte b ≡ false → 0 < piece_size (b ∷ text)
    by_part None p byte = let all = part_piece b text None byte p in rw all (omega arith)
    by_part (Some n) p byte = let all = part_piece b text (Some n) byte p in rw all (part_some is_word_byte (IsPart-from_size is_word_byte b text n byte p))

    by_byte : (t : Bool) → is_word_byte b ≡ t → 0 < piece_size (b ∷ text)
    by_byte true byte = rw (run_piece b text byte) (run_some b text byte)
    by_byte false byte = by_part (part_size (b ∷ text)) refl byte

begin : (at b size : ℕ) (text : List ℕ) → piece_size (b ∷ text) ≡ size → 0 < size → HasWords (suc at + (size - 1)) (drop (size - 1) text) (words_behind (size - 1) (suc at) text)
    → HasWords at (b ∷ text) (word_here at b size ++ words_behind (size - 1) (suc at) text)
begin at b zero text e some rest = absurd (omega arith)
begin at b (suc size) text e some rest =
    let less : suc size - 1 ≡ size = omega arith in
    let place : suc at + (suc size - 1) ≡ at + suc size = omega arith in
    let tail : drop (suc size - 1) text ≡ drop size text = ap (λ n. drop n text) less in
    step at b (suc size) text (words_behind (suc size - 1) (suc at) text) e
    (subst (λ t. HasWords (at + suc size) t (words_behind (suc size - 1) (suc at) text)) tail
    (subst (λ n. HasWords n (drop (suc size - 1) text) (words_behind (suc size - 1) (suc at) text)) place rest))

HasWords-behind : (text : List ℕ) (skipped at : ℕ) → HasWords (at + skipped) (drop skipped text) (words_behind skipped at text)
HasWords-behind [] zero at = nothing
HasWords-behind [] (suc skipped) at = nothing
HasWords-behind (b ∷ text) zero at =
    let place : at + 0 ≡ at = omega arith in
    subst (λ n. HasWords n (b ∷ text) (words_behind 0 at (b ∷ text))) (sym place)
    (begin at b (piece_size (b ∷ text)) text refl (piece_some b text) (HasWords-behind text (piece_size (b ∷ text) - 1) (suc at)))
HasWords-behind (b ∷ text) (suc skipped) at =
    let place : suc at + skipped ≡ at + suc skipped = omega arith in
    subst (λ n. HasWords n (drop skipped text) (words_behind skipped (suc at) text)) place (HasWords-behind text skipped (suc at))

pub HasWords-words_of : (at : ℕ) (text : List ℕ) → HasWords at text (words_of at text)
HasWords-words_of at text =
    let place : at + 0 ≡ at = omega arith in
    subst (λ n. HasWords n text (words_of at text)) place (HasWords-behind text 0 at)

-- ---- at a place of the bytes

words_at : (bytes : List ℕ) (at b size : ℕ) → at < length bytes → b ≡ get_or bytes at 0 → size ≡ piece_size (drop at bytes) → 0 < size
    → words_of at (drop at bytes) ≡ word_here at b size ++ words_of (at + size) (drop (at + size) bytes)
words_at bytes at b size lt is e some =
    let front : drop at bytes ≡ b ∷ drop (at + 1) bytes = drop_more bytes at 0 lt ∙ ap (λ x. x ∷ drop (at + 1) bytes) (sym is) in
    let piece : piece_size (b ∷ drop (at + 1) bytes) ≡ size = ap piece_size (sym front) ∙ sym e in
    let tail : drop size (b ∷ drop (at + 1) bytes) ≡ drop (at + size) bytes = ap (drop size) (sym front) ∙ drop-drop size at bytes in
    ap (words_of at) front ∙ (words_of-more at b (drop (at + 1) bytes) size piece some ∙ ap (λ t. word_here at b size ++ words_of (at + size) t) tail)

pub words_at-word : (bytes : List ℕ) (at b size : ℕ) → at < length bytes → b ≡ get_or bytes at 0 → size ≡ piece_size (drop at bytes) → 0 < size → begins_word b ≡ true
    → words_of at (drop at bytes) ≡ word_at at size ∷ words_of (at + size) (drop (at + size) bytes)
words_at-word bytes at b size lt is e some begins =
    words_at bytes at b size lt is e some ∙ ap (λ ws. ws ++ words_of (at + size) (drop (at + size) bytes)) (word_stands at b size begins)

pub words_at-other : (bytes : List ℕ) (at b size : ℕ) → at < length bytes → b ≡ get_or bytes at 0 → size ≡ piece_size (drop at bytes) → 0 < size → begins_word b ≡ false
    → words_of at (drop at bytes) ≡ words_of (at + size) (drop (at + size) bytes)
words_at-other bytes at b size lt is e some begins =
    words_at bytes at b size lt is e some ∙ ap (λ ws. ws ++ words_of (at + size) (drop (at + size) bytes)) (nothing_here at b size begins)

pub words_at-end : (bytes : List ℕ) (at : ℕ) → length bytes ≤ at → words_of at (drop at bytes) ≡ []
words_at-end bytes at le = ap (words_of at) (drop_all at bytes le)

pub not_nil : {w : Word} {words : List Word} → w ∷ words ≡ [] → ⊥
not_nil e = cc
