-- Lines as bytes: none has a newline but at its end, so that a text has the lines back of which it consists.
use Rattle.std.proofs.Common.{◌≡◌, ◌≢◌, ℕ, ◌/◌, ◌%◌, Bool, true, not, ◌&&◌, List, [], ◌∷◌, ◌++◌, None, Some, map, refl, sym, ap, ◌∙◌, subst, append_assoc, inl, inr, arith}
use Rattle.std.specs.Prelude.{◌==◌, codes, All, nat_le}
use Rattle.std.specs.List.{flat_map}
use Rattle.std.proofs.lemmas.Bool.{false≢true, and_parts, and_from, not_from_false, ne_eqb, cases_Bool}
use Rattle.std.proofs.lemmas.List.Elements.{All-nil, All-cons, All-head, All-tail, All-weaker}
use Rattle.cs_pattern_parts.specs.Items.StandsFor.{AreBytes}
use Rattle.cs_lines.specs.Words.Words.{line, numeral, hexadecimal_digit, escaped, is_plain_text, text_byte, quoted, IsVisible, IsWord}
use Rattle.cs_lines.specs.Words.Edits.{EditWords, Deletes, Inserts, Replaces, Swaps}
use Rattle.cs_lines.specs.Lines.Line.{SetKind, Productive, Reachable, Empty, RowKind, First, Last, Next, GoalWords, OfRule, OfContext, OfPair, VerdictWords, Feasible, Infeasible, Large, Line, Opening, Weighing, TokenLine, RuleLine, LexemeLine, SetLine, RowLine, CaseLine, DeriveLine, TokensLine, TextLine, NoLexemeLine, NoScanLine, GoalLine, BaseLine, NegativeLine, EndLine}
use Rattle.cs_choices.specs.declared.weigh.Weigh.{Weigh}
use Rattle.cs_choices.specs.declared.weigh.Weigh.TheVariants.{Nodes, Bytes}
use Rattle.cs_lines.specs.Lines.Numbers.{IsDigit}
use Rattle.cs_lines.specs.Lines.Texts.{joined, words, names, text_in, goal_words, goal_names, verdict_words, edit_words, edit_names, weigh_word, set_word, row_word, Says}
use Rattle.cs_lines.specs.Lines.Pieces.{lines_of}
use Rattle.cs_lines.proofs.OnPieces.{AreInner, whole_line}
use Rattle.cs_lines.proofs.OnLines.Numerals.{numeral_all}
use Rattle.cs_lines.proofs.OnTexts.Quotes.{plain, hidden, low_digit, high_digit}

-- the bytes of a line
abbrev pub text_of : Line → List ℕ
text_of l = line (joined (words l))

abbrev pub told : List Line → List ℕ
told [] = []
told (l ∷ lines) = text_of l ++ told lines

-- the line may be said: its names are words, and its text is of bytes
pub record IsSayable (l : Line) : Type 0 where
  pub are_words : All IsWord (names l)
  pub are_bytes : AreBytes (text_in l)

abbrev pub AreSayable : List Line → Type 0
AreSayable [] = Unit {0}
AreSayable (l ∷ lines) = IsSayable l × AreSayable lines

pub says : (l : Line) → IsSayable l → Says (text_of l) l
says l h = record { text = refl; are_words = h.are_words; are_bytes = h.are_bytes }

-- ---- bytes that are no newlines

abbrev inner : List ℕ → Bool
inner [] = true
inner (b ∷ w) = not (b == 10) && inner w

abbrev AreAllInner : List (List ℕ) → Type 0
AreAllInner [] = Unit {0}
AreAllInner (w ∷ ws) = (inner w ≡ true) × AreAllInner ws

inner_cons : (b : ℕ) (w : List ℕ) → b ≢ 10 → inner w ≡ true → inner (b ∷ w) ≡ true
inner_cons b w other h = and_from (not (b == 10)) (inner w) (not_from_false (b == 10) (ne_eqb b 10 other)) h

inner_all : (w : List ℕ) → inner w ≡ true → AreInner w
inner_all [] h = All-nil (λ b. b ≢ 10)
inner_all (b ∷ w) h =
    let parts = and_parts (not (b == 10)) (inner w) h in
    All-cons (λ c. c ≢ 10) b w (λ e. false≢true (subst (λ c. not (c == 10) ≡ true) e parts.0)) (inner_all w parts.1)

all_inner : (w : List ℕ) → AreInner w → inner w ≡ true
all_inner [] h = refl
all_inner (b ∷ w) h = inner_cons b w (All-head (λ c. c ≢ 10) b w h) (all_inner w (All-tail (λ c. c ≢ 10) b w h))

inner_both : (w v : List ℕ) → inner w ≡ true → inner v ≡ true → inner (w ++ v) ≡ true
inner_both [] v h k = k
inner_both (b ∷ w) v h k =
    let parts = and_parts (not (b == 10)) (inner w) h in
    and_from (not (b == 10)) (inner (w ++ v)) parts.0 (inner_both w v parts.1 k)

inner_joined : (ws : List (List ℕ)) → AreAllInner ws → inner (joined ws) ≡ true
inner_joined [] h = refl
inner_joined (w ∷ []) h = h.0
inner_joined (w ∷ v ∷ ws) h = inner_both w (32 ∷ joined (v ∷ ws)) h.0 (inner_joined (v ∷ ws) h.1)

-- ---- names, numerals and texts

word_inner : (w : List ℕ) → IsWord w → inner w ≡ true
word_inner w h = all_inner w (All-weaker IsVisible (λ b. b ≢ 10) (λ b v e. omega (arith, v.0, e)) w h.visible)

words_inner : (ws : List (List ℕ)) → All IsWord ws → AreAllInner ws
words_inner [] h = tt
words_inner (w ∷ ws) h = (word_inner w (All-head IsWord w ws h), words_inner ws (All-tail IsWord w ws h))

numeral_inner : (n : ℕ) → inner (numeral n) ≡ true
numeral_inner n = all_inner (numeral n) (All-weaker IsDigit (λ b. b ≢ 10) (λ b d e. omega (arith, d.0, e)) (numeral n) (numeral_all (numeral n) (n, refl)))

numerals_inner : (ns : List ℕ) → AreAllInner (map numeral ns)
numerals_inner [] = tt
numerals_inner (n ∷ ns) = (numeral_inner n, numerals_inner ns)

digit_inner : (n : ℕ) → hexadecimal_digit n ≢ 10
digit_inner n e =
    elim (cases_Bool (nat_le n 9)) [
      | inl low ↦ (let is = low_digit n low in omega (arith, is, e))
      | inr high ↦ (let is = high_digit n high in omega (arith, is, e))
    ]

escaped_inner : (b : ℕ) → inner (escaped b) ≡ true
escaped_inner b =
    inner_cons (hexadecimal_digit (b / 16)) (hexadecimal_digit (b % 16) ∷ []) (digit_inner (b / 16))
    (inner_cons (hexadecimal_digit (b % 16)) [] (digit_inner (b % 16)) refl)

plain_other : (b : ℕ) → is_plain_text b ≡ true → b ≢ 10
plain_other b p e = false≢true (sym (ap is_plain_text e) ∙ p)

byte_inner : (b : ℕ) → inner (text_byte b) ≡ true
byte_inner b =
    elim (cases_Bool (is_plain_text b)) [
      | inl p ↦ subst (λ (w : List ℕ). inner w ≡ true) (sym (plain b p)) (inner_cons b [] (plain_other b p) refl)
      | inr p ↦ subst (λ (w : List ℕ). inner w ≡ true) (sym (hidden b p)) (escaped_inner b)
    ]

text_inner : (text : List ℕ) → inner (flat_map text_byte text) ≡ true
text_inner [] = refl
text_inner (b ∷ text) = inner_both (text_byte b) (flat_map text_byte text) (byte_inner b) (text_inner text)

quoted_inner : (text : List ℕ) → inner (quoted text) ≡ true
quoted_inner text = inner_both (flat_map text_byte text) (34 ∷ []) (text_inner text) refl

-- ---- lines

weigh_inner : (weigh : Weigh) → inner (weigh_word weigh) ≡ true
weigh_inner Nodes = refl
weigh_inner Bytes = refl

set_inner : (kind : SetKind) → inner (set_word kind) ≡ true
set_inner Productive = refl
set_inner Reachable = refl
set_inner Empty = refl

row_inner : (kind : RowKind) → inner (row_word kind) ≡ true
row_inner First = refl
row_inner Last = refl
row_inner Next = refl

goal_inner : (goal : GoalWords) (others : List (List ℕ)) → All IsWord (goal_names goal) → AreAllInner others → AreAllInner (goal_words goal others)
goal_inner (OfRule r) others h k = (refl, (numeral_inner r, k))
goal_inner (OfContext p i q) others h k = (refl, (numeral_inner p, (numeral_inner i, (numeral_inner q, k))))
goal_inner (OfPair a b) others h k = let both = words_inner (a ∷ b ∷ []) h in (refl, (both.0, (both.1.0, k)))

verdict_inner : (verdict : VerdictWords) → AreAllInner (verdict_words verdict)
verdict_inner (Feasible s c f) = (refl, (numeral_inner s, (refl, (numeral_inner c, (refl, (numeral_inner f, tt))))))
verdict_inner Infeasible = (refl, tt)
verdict_inner Large = (refl, tt)

edit_inner : (edit : EditWords) (others : List (List ℕ)) → All IsWord (edit_names edit) → AreAllInner others → AreAllInner (edit_words edit others)
edit_inner (Deletes i) others h k = (refl, (numeral_inner i, k))
edit_inner (Inserts i name) others h k = (refl, (numeral_inner i, ((words_inner (name ∷ []) h).0, k)))
edit_inner (Replaces i name) others h k = (refl, (numeral_inner i, ((words_inner (name ∷ []) h).0, k)))
edit_inner (Swaps i) others h k = (refl, (numeral_inner i, k))

line_inner : (l : Line) → All IsWord (names l) → AreAllInner (words l)
line_inner Opening h = (refl, (refl, (refl, tt)))
line_inner (Weighing weigh) h = (refl, (weigh_inner weigh, tt))
line_inner (TokenLine n name) h = (refl, (numeral_inner n, words_inner (name ∷ []) h))
line_inner (RuleLine n left right) h = let both = words_inner (left ∷ right) h in (refl, (numeral_inner n, (both.0, (refl, both.1))))
line_inner (LexemeLine name None) h = (refl, ((words_inner (name ∷ []) h).0, (refl, tt)))
line_inner (LexemeLine name (Some text)) h = (refl, ((words_inner (name ∷ []) h).0, (quoted_inner text, tt)))
line_inner (SetLine kind named) h = (refl, (set_inner kind, words_inner named h))
line_inner (RowLine kind name named) h = let both = words_inner (name ∷ named) h in (refl, (row_inner kind, (both.0, (refl, both.1))))
line_inner (CaseLine n size) h = (refl, (numeral_inner n, (refl, (numeral_inner size, tt))))
line_inner (DeriveLine rules) h = (refl, (refl, (refl, numerals_inner rules)))
line_inner (TokensLine named) h = (refl, (refl, (refl, words_inner named h)))
line_inner (TextLine text) h = (refl, (refl, (refl, (quoted_inner text, tt))))
line_inner (NoLexemeLine name) h = (refl, (refl, (refl, (refl, (refl, words_inner (name ∷ []) h)))))
line_inner (NoScanLine after) h = (refl, (refl, (refl, (refl, (refl, (numeral_inner after, tt))))))
line_inner (GoalLine n goal verdict) h = (refl, (numeral_inner n, goal_inner goal (verdict_words verdict) h (verdict_inner verdict)))
line_inner (BaseLine n goal) h = (refl, (numeral_inner n, (refl, (numeral_inner goal, tt))))
line_inner (NegativeLine n base edit left right at) h =
    let all = words_inner (left ∷ right ∷ edit_names edit) h in
    let pair : AreAllInner (codes "pair" ∷ left ∷ right ∷ codes "at" ∷ numeral at ∷ []) = (refl, (all.0, (all.1.0, (refl, (numeral_inner at, tt))))) in (
      refl,
      (
        numeral_inner n,
        (
          refl,
          (
            numeral_inner base,
            edit_inner edit (codes "pair" ∷ left ∷ right ∷ codes "at" ∷ numeral at ∷ []) (All-tail IsWord right (edit_names edit) (All-tail IsWord left (right ∷ edit_names edit) h)) pair,
          ),
        ),
      ),
    )
line_inner (EndLine c) h =
    (refl, (refl, (numeral_inner c.goals, (refl, (numeral_inner c.feasible, (refl, (numeral_inner c.infeasible, (refl, (numeral_inner c.large, (refl, (numeral_inner c.negatives, (refl, (numeral_inner c.cases, tt)))))))))))))

-- a text of such lines has them back
pub told_lines : (lines : List Line) → AreSayable lines → lines_of (told lines) ≡ map text_of lines
told_lines [] h = refl
told_lines (l ∷ lines) h =
    let w = joined (words l) in
    ap lines_of (append_assoc w (10 ∷ []) (told lines))
    ∙ whole_line w (told lines) (inner_all w (inner_joined (words l) (line_inner l h.0.are_words)))
    ∙ ap (λ (ls : List (List ℕ)). (w ++ 10 ∷ []) ∷ ls) (told_lines lines h.1)
