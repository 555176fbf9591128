-- Items that are laid out with one byte of white space before each are read.
use Rattle.std.proofs.Common.{◌≡◌, ℕ, ◌+◌, ◌-◌, ◌<◌, true, false, List, [], ◌∷◌, ◌++◌, length, drop, refl, sym, ap, subst, ◌∙◌, append_assoc, arith}
use Rattle.std.specs.Prelude.{codes}
use Rattle.std.specs.List.{flat_map, list_all, prefix_len}
use Rattle.std.proofs.lemmas.Bool.{false≢true}
use Rattle.std.proofs.lemmas.Bool.Decides.{nat_tests}
use Rattle.std.proofs.lemmas.List.{drop-drop, drop_at, take_at, length-drop}
use Rattle.cs_bytes.specs.Classes.{is_white_space}
use Rattle.cs_bytes.specs.Places.{front}
use Rattle.cs_bytes.proofs.Runs.{run-stops}
use Rattle.cs_yacc.specs.Items.Bytes.{begins_name, is_name_byte}
use Rattle.cs_yacc.specs.declared.items.directive.Directive.TheVariants as directives
use Rattle.cs_yacc.specs.Items.Items.{Item, mark, directive, name, colon, semicolon, bar, BeginsItem, IsKnown, IsGap, nothing, blank, Placed, items_of, Follows, Reached, marks_behind, ReadsTo, ReadingEnds, at_end, Reads}
use Rattle.cs_yacc.proofs.OnItems.Begin.{begins_colon, begins_semicolon, begins_bar, name_is, mark_is, directive_is}
use Rattle.cs_gen.specs.declared.symbol.Symbol.{Symbol}
use Rattle.cs_gen.specs.declared.symbol.Symbol.TheVariants.{Token, Nonterminal}
use Rattle.cs_gen.specs.Rules.{Line, lines}
use Rattle.cs_gen.specs.Texts as texts
use Rattle.cs_gen.proofs.Digits.{decimal_passes}
use Rattle.cs_gen.proofs.KnownLines as known
use Rattle.cs_gen.proofs.KnownLines.{AreKnown, AreBodies, AreLines}
use Rattle.cs_gen.proofs.FileItems.{symbol_item, body_onto, alternatives_onto, line_onto, lines_items, all_tokens, tokens_known, rest_items, file_items}

-- ---- words

-- the word spells the item where white space stands behind it
abbrev pub IsWordOf : Item → List ℕ → Type 0
IsWordOf mark w = w ≡ codes "%%"
IsWordOf (name n) w = (w ≡ n) × (front begins_name n ≡ true) × (list_all is_name_byte n ≡ true)
IsWordOf colon w = w ≡ codes ":"
IsWordOf semicolon w = w ≡ codes ";"
IsWordOf bar w = w ≡ codes "|"
IsWordOf i w = ⊥

word_known : (i : Item) (w : List ℕ) → IsWordOf i w → IsKnown i
word_known mark w h = tt
word_known (name n) w h = tt
word_known colon w h = tt
word_known semicolon w h = tt
word_known bar w h = tt
word_known i w h = absurd h

white_no_name : (c : ℕ) → is_white_space c ≡ true → is_name_byte c ≡ false
white_no_name c h = grind (arith, nat_tests)

name_begins : (n : List ℕ) (c : ℕ) (rest : List ℕ) → front begins_name n ≡ true → list_all is_name_byte n ≡ true → is_white_space c ≡ true → BeginsItem (n ++ c ∷ rest) (name n) (length n)
name_begins [] c rest f all white = absurd (false≢true f)
name_begins (b ∷ n) c rest f all white =
    let size : length (b ∷ n) ≡ prefix_len is_name_byte ((b ∷ n) ++ c ∷ rest) = sym (run-stops is_name_byte (b ∷ n) c rest all (white_no_name c white)) in
    subst (λ (w : List ℕ). BeginsItem ((b ∷ n) ++ c ∷ rest) (name w) (length (b ∷ n))) (take_at (b ∷ n) (c ∷ rest) (length (b ∷ n)) refl)
    (name_is ((b ∷ n) ++ c ∷ rest) (length (b ∷ n)) f size)

word_begins : (i : Item) (w : List ℕ) (c : ℕ) (rest : List ℕ) → IsWordOf i w → is_white_space c ≡ true → BeginsItem (w ++ c ∷ rest) i (length w)
word_begins mark w c rest h white = rw h (mark_is (37 ∷ 37 ∷ c ∷ rest) refl refl)
word_begins (name n) w c rest h white = rw h.0 (name_begins n c rest h.1 h.2 white)
word_begins colon w c rest h white = rw h (begins_colon (58 ∷ c ∷ rest) (omega arith) refl)
word_begins semicolon w c rest h white = rw h (begins_semicolon (59 ∷ c ∷ rest) (omega arith) refl)
word_begins bar w c rest h white = rw h (begins_bar (124 ∷ c ∷ rest) (omega arith) refl)
word_begins i w c rest h white = absurd h

-- ---- the names of symbols are words

digit_byte : (d : ℕ) → d < 10 → is_name_byte (48 + d) ≡ true
digit_byte d lt = grind (arith, nat_tests)

pub name_word : (s : Symbol) → known.IsKnown s → IsWordOf (symbol_item s) (texts.name s)
name_word (Token n) h = (refl, refl, decimal_passes is_name_byte digit_byte n (omega (arith, h.1)))
name_word (Nonterminal n) h = (refl, refl, decimal_passes is_name_byte digit_byte n (omega (arith, h.1)))

-- ---- laid out

-- The text is these items, each with one byte of white space before it, and a newline; so many marks stand before it.
pub data Laid : ℕ → List Item → List ℕ → Type 0 where
  ends : {marks : ℕ} {text : List ℕ} → marks < 2 → text ≡ 10 ∷ [] → Laid marks [] text
  more : {marks : ℕ} {item : Item} {items : List Item} {text : List ℕ} (white : ℕ) (word rest : List ℕ) → marks < 2 → is_white_space white ≡ true → IsWordOf item word → Laid (marks_behind marks item) items rest → text ≡ white ∷ (word ++ rest)
      → Laid marks (item ∷ items) text

-- white space stands in front
pub record BeginsWhite (text : List ℕ) : Type 0 where
  pub byte : ℕ
  pub rest : List ℕ
  pub is : text ≡ byte ∷ rest
  pub white : is_white_space byte ≡ true

laid_white : {marks : ℕ} {items : List Item} {text : List ℕ} → Laid marks items text → BeginsWhite text
laid_white (ends lt e) = record { byte = 10; rest = []; is = e; white = refl }
laid_white (more white word rest lt w is laid e) = record { byte = white; rest = word ++ rest; is = e; white = w }

-- reading goes on so from the offset
pub record ReadsFrom (bytes : List ℕ) (at marks : ℕ) (items : List Item) : Type 0 where
  pub placed : List Placed
  pub are : items_of placed ≡ items
  pub to : Reached
  pub read : ReadsTo bytes (record { at = at; marks = marks }) placed to
  pub end : ReadingEnds bytes to

pub reads_laid : {marks : ℕ} {items : List Item} {text : List ℕ} → Laid marks items text → (bytes : List ℕ) (at : ℕ) → drop at bytes ≡ text → ReadsFrom bytes at marks items
reads_laid {marks = marks} (ends lt e) bytes at here =
    let left : drop at bytes ≡ 10 ∷ [] = here ∙ e in
    let one : length bytes - at ≡ 1 = sym (length-drop at bytes) ∙ ap length left in
    let gap : IsGap (10 ∷ []) 1 = blank refl nothing in
    record {
      placed = [];
      are = refl;
      to = record { at = at; marks = marks };
      read = refl;
      end = at_end lt (omega arith) (rw (left, one) gap);
    }
reads_laid {marks = marks} (more {item = item} white word rest lt w is laid e) bytes at here =
    let behind = laid_white laid in
    let shown : drop at bytes ≡ white ∷ (word ++ rest) = here ∙ e in
    let from : drop (at + 1) bytes ≡ word ++ rest = sym (drop-drop 1 at bytes) ∙ ap (drop 1) shown in
    let next : drop (at + 1 + length word) bytes ≡ rest = sym (drop-drop (length word) (at + 1) bytes) ∙ ap (drop (length word)) from ∙ drop_at word rest (length word) refl in
    let r = reads_laid laid bytes (at + 1 + length word) next in
    let gap : IsGap (white ∷ (word ++ rest)) 1 = blank w nothing in
    let begins : BeginsItem (word ++ rest) item (length word) = rw behind.is (word_begins item word behind.byte behind.rest is behind.white) in
    let p : Placed = record { at = at + 1; item = item } in
    let follows : Follows bytes at p (at + 1 + length word) = record { gap = (1, subst (λ (t : List ℕ). IsGap t 1) (sym shown) gap, refl); item = (length word, subst (λ (t : List ℕ). BeginsItem t item (length word)) (sym from) begins, refl); known = word_known item word is } in
    record {
      placed = p ∷ r.placed;
      are = ap (λ (x : List Item). item ∷ x) r.are;
      to = r.to;
      read = (lt, at + 1 + length word, follows, r.read);
      end = r.end;
    }

-- ---- the parts of the file

pub names_laid : {marks : ℕ} {items : List Item} {rest : List ℕ} (ss : List Symbol) → AreKnown ss → marks < 2 → Laid marks items rest → Laid marks (body_onto ss items) (texts.names ss ++ rest)
names_laid [] h lt laid = laid
names_laid {rest = rest} (s ∷ ss) h lt laid =
    more 32 (texts.name s) (texts.names ss ++ rest) lt refl (name_word s h.0) (names_laid ss h.1 lt laid) (ap (λ (t : List ℕ). 32 ∷ t) (append_assoc (texts.name s) (texts.names ss) rest))

alternatives_laid : {marks : ℕ} {items : List Item} {rest : List ℕ} (bs : List (List Symbol)) → AreBodies bs → marks < 2 → Laid marks items rest → Laid marks (alternatives_onto bs items) (texts.alternatives bs ++ rest)
alternatives_laid [] h lt laid = laid
alternatives_laid {rest = rest} (b ∷ bs) h lt laid =
    let is = h.0 in
    more 32 (codes "|") (texts.names b ++ (texts.alternatives bs ++ rest)) lt refl refl (names_laid b is.known lt (alternatives_laid bs h.1 lt laid)) (ap (λ (t : List ℕ). 32 ∷ 124 ∷ t) (append_assoc (texts.names b) (texts.alternatives bs) rest))

five : (a b c d e rest : List ℕ) → ((((a ++ b) ++ c) ++ d) ++ e) ++ rest ≡ a ++ (b ++ (c ++ (d ++ (e ++ rest))))
five a b c d e rest =
    append_assoc (((a ++ b) ++ c) ++ d) e rest ∙ append_assoc ((a ++ b) ++ c) d (e ++ rest) ∙ append_assoc (a ++ b) c (d ++ (e ++ rest)) ∙ append_assoc a b (c ++ (d ++ (e ++ rest)))

line_laid : {items : List Item} (l : Line) (rest : List ℕ) → known.IsLine l → Laid 1 items (10 ∷ rest) → Laid 1 (line_onto l items) (10 ∷ (texts.line_text l ++ rest))
line_laid l rest h laid =
    let lt : 1 < 2 = omega arith in
    let first = h.first in
    let left = texts.name (Nonterminal l.left) in
    let behind_colon = texts.names l.first ++ (texts.alternatives l.others ++ (32 ∷ 59 ∷ 10 ∷ rest)) in
    more 10 left (32 ∷ 58 ∷ behind_colon) lt refl (name_word (Nonterminal l.left) h.left)
    (more 32 (codes ":") behind_colon lt refl refl (names_laid l.first first.known lt (alternatives_laid l.others h.others lt (more 32 (codes ";") (10 ∷ rest) lt refl refl laid refl))) refl)
    (ap (λ (t : List ℕ). 10 ∷ t) (five left (codes " :") (texts.names l.first) (texts.alternatives l.others) (codes " ;\n") rest))

lines_laid : (ls : List Line) → AreLines ls → Laid 1 (lines_items ls) (10 ∷ flat_map texts.line_text ls)
lines_laid [] h = ends (omega arith) refl
lines_laid (l ∷ ls) h = line_laid l (flat_map texts.line_text ls) h.0 (lines_laid ls h.1)

-- what stands behind `%token`
abbrev pub behind_word : List Line → List ℕ
behind_word ls = texts.names all_tokens ++ (10 ∷ 37 ∷ 37 ∷ 10 ∷ flat_map texts.line_text ls)

rest_laid : (ls : List Line) → AreLines ls → Laid 0 (rest_items ls) (behind_word ls)
rest_laid ls h =
    names_laid all_tokens tokens_known (omega arith) (more 10 (codes "%%") (10 ∷ flat_map texts.line_text ls) (omega arith) refl refl (lines_laid ls h) refl)

pub text_is : (seed : ℕ) → texts.yacc_text seed ≡ codes "%token" ++ behind_word (lines seed)
unfolding texts.yacc_text
text_is seed =
    append_assoc (codes "%token" ++ texts.names all_tokens) (codes "\n%%\n") (flat_map texts.line_text (lines seed))
    ∙ append_assoc (codes "%token") (texts.names all_tokens) (codes "\n%%\n" ++ flat_map texts.line_text (lines seed))

-- ---- the whole file

token_begins : (c : ℕ) (rest : List ℕ) → c ≡ 32 → BeginsItem (codes "%token" ++ c ∷ rest) (directive directives.Token) 6
token_begins c rest e = rw e (directive_is (codes "%token" ++ 32 ∷ rest) (codes "token" ++ 32 ∷ rest) 5 refl refl refl refl refl directives.Token (λ z. omega arith) refl)

-- the text is read into items that are these
pub file_read : (seed : ℕ) → (placed : List Placed) × Reads (texts.yacc_text seed) placed × (items_of placed ≡ file_items (lines seed))
file_read seed =
    let ls = lines seed in
    let bytes = codes "%token" ++ behind_word ls in
    let r = reads_laid (rest_laid ls (known.known_lines seed)) bytes 6 refl in
    let p : Placed = record { at = 0; item = directive directives.Token } in
    let follows : Follows bytes 0 p 6 = record { gap = (0, nothing, refl); item = (6, token_begins 32 (drop 1 (behind_word ls)) refl, refl); known = tt } in
    let reads : Reads bytes (p ∷ r.placed) = record { to = r.to; read = (omega arith, 6, follows, r.read); ends = r.end } in
    (p ∷ r.placed, subst (λ (t : List ℕ). Reads t (p ∷ r.placed)) (sym (text_is seed)) reads, ap (λ (x : List Item). directive directives.Token ∷ x) r.are)
