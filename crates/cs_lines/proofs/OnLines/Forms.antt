-- What words a line of each form has, and that such words are the line.
use Rattle.std.proofs.Common.{◌≡◌, ℕ, true, cond, ◌⊎◌, inl, inr, List, [], ◌∷◌, ◌++◌, Option, None, Some, refl, sym, ap, ◌∙◌, subst, arith}
use Rattle.std.specs.Prelude.{codes, All}
use Rattle.std.proofs.lemmas.Bool.{cases_cond}
use Rattle.std.proofs.lemmas.List.{same_from_push}
use Rattle.std.proofs.lemmas.List.Elements.{All-nil, All-cons, All-head, All-tail}
use Rattle.cs_choices.specs.declared.weigh.Weigh.{Weigh}
use Rattle.cs_pattern_parts.specs.Items.StandsFor.{AreBytes}
use Rattle.cs_lines.specs.Words.Words.{line, numeral, IsWord}
use Rattle.cs_lines.specs.Words.Edits.{EditWords}
use Rattle.cs_lines.specs.Lines.Line.{SetKind, RowKind, GoalWords, VerdictWords, Counts, Line, Opening, Weighing, TokenLine, RuleLine, LexemeLine, SetLine, RowLine, CaseLine, GoalLine, BaseLine, NegativeLine, EndLine}
use Rattle.cs_lines.specs.Lines.Texts.{joined, weigh_word, set_word, row_word, goal_words, verdict_words, edit_words, words, edit_names, goal_names, names, text_in, Says}
use Rattle.cs_lines.specs.Lines.Spelled.{spelled_or_none, bytes_in}
use Rattle.cs_lines.proofs.OnTexts.Words.{free, AreFree, joined_same, word_free, words_free, numeral_free}
use Rattle.cs_lines.proofs.OnTexts.OneLine.{at, is_set_byte, rank, tag, tagged, weigh_free, set_free, row_free, goal_free, verdict_free, negative_free, pair_words, counts_free, one_name, lexeme_text, tail_of}
use Rattle.cs_lines.proofs.OnLines.Splits.{tail, joined_tail, next_word}
use Rattle.cs_lines.proofs.OnLines.Parts.{same_front, same_behind, set_not_row}

-- ---- words that are a line

pub says_words : (ws : List (List ℕ)) (l : Line) → ws ≡ words l → All IsWord (names l) → AreBytes (text_in l) → Says (line (joined ws)) l
says_words ws l is are_words are_bytes = record {
  text = ap (λ (v : List (List ℕ)). line (joined v)) is;
  are_words = are_words;
  are_bytes = are_bytes;
}

-- ---- which form a line has

pub says_text : (text : List ℕ) (l : Line) → Says (line text) l → text ≡ joined (words l)
says_text text l h = (same_from_push text (joined (words l)) 10 10 h.text).0

pub ranked : (w : List ℕ) (ws : List (List ℕ)) (l : Line) (r : ℕ) → tag (w ++ tail ws) ≡ r → Says (line (joined (w ∷ ws))) l → rank l ≡ r
ranked w ws l r is h =
    let text = says_text (joined (w ∷ ws)) l h in
    sym (tagged l) ∙ sym (ap tag text) ∙ ap tag (joined_tail w ws) ∙ is

-- ---- the head

opening_from : (ws : List (List ℕ)) (l : Line) → rank l ≡ 0 → AreFree ws → joined (codes "conform" ∷ ws) ≡ joined (words l) → ws ≡ codes "2" ∷ codes "suite" ∷ []
opening_from ws Opening r f e =
    let same = joined_same (codes "conform") ws (codes "conform") (codes "2" ∷ codes "suite" ∷ []) (refl, f) (refl, (refl, (refl, tt))) e in
    cc
opening_from ws l r f e = absurd (omega (arith, r))

pub opening_words : (ws : List (List ℕ)) (l : Line) → AreFree ws → Says (line (joined (codes "conform" ∷ ws))) l → ws ≡ codes "2" ∷ codes "suite" ∷ []
opening_words ws l f h = opening_from ws l (ranked (codes "conform") ws l 0 refl h) f (says_text (joined (codes "conform" ∷ ws)) l h)

pub record OfWeighing (ws : List (List ℕ)) : Type 0 where
  pub weigh : Weigh
  pub is : ws ≡ weigh_word weigh ∷ []

weighing_from : (ws : List (List ℕ)) (l : Line) → rank l ≡ 1 → AreFree ws → joined (codes "weigh" ∷ ws) ≡ joined (words l) → OfWeighing ws
weighing_from ws (Weighing weigh) r f e =
    let same = joined_same (codes "weigh") ws (codes "weigh") (weigh_word weigh ∷ []) (refl, f) (refl, weigh_free weigh) e in
    record { weigh = weigh; is = cc }
weighing_from ws l r f e = absurd (omega (arith, r))

pub weighing_words : (ws : List (List ℕ)) (l : Line) → AreFree ws → Says (line (joined (codes "weigh" ∷ ws))) l → OfWeighing ws
weighing_words ws l f h = weighing_from ws l (ranked (codes "weigh") ws l 1 refl h) f (says_text (joined (codes "weigh" ∷ ws)) l h)

pub record OfToken (ws : List (List ℕ)) : Type 0 where
  pub number : ℕ
  pub name : List ℕ
  pub is_word : IsWord name
  pub is : ws ≡ numeral number ∷ name ∷ []

token_from : (ws : List (List ℕ)) (l : Line) → rank l ≡ 2 → AreFree ws → All IsWord (names l) → joined (codes "token" ∷ ws) ≡ joined (words l) → OfToken ws
token_from ws (TokenLine n name) r f h e =
    let same = joined_same (codes "token") ws (codes "token") (numeral n ∷ name ∷ []) (refl, f) (refl, (numeral_free n, one_name name h)) e in
    record { number = n; name = name; is_word = All-head IsWord name [] h; is = cc }
token_from ws l r f h e = absurd (omega (arith, r))

pub token_words : (ws : List (List ℕ)) (l : Line) → AreFree ws → Says (line (joined (codes "token" ∷ ws))) l → OfToken ws
token_words ws l f h = token_from ws l (ranked (codes "token") ws l 2 refl h) f h.are_words (says_text (joined (codes "token" ∷ ws)) l h)

pub record OfRuleLine (ws : List (List ℕ)) : Type 0 where
  pub number : ℕ
  pub left : List ℕ
  pub right : List (List ℕ)
  pub is_word : IsWord left
  pub are_words : All IsWord right
  pub is : ws ≡ numeral number ∷ left ∷ codes ":" ∷ right

rule_from : (ws : List (List ℕ)) (l : Line) → rank l ≡ 3 → AreFree ws → All IsWord (names l) → joined (codes "rule" ∷ ws) ≡ joined (words l) → OfRuleLine ws
rule_from ws (RuleLine n left right) r f h e =
    let free = words_free (left ∷ right) h in
    let same = joined_same (codes "rule") ws (codes "rule") (numeral n ∷ left ∷ codes ":" ∷ right) (refl, f) (refl, (numeral_free n, (free.0, (refl, free.1)))) e in
    record { number = n; left = left; right = right; is_word = All-head IsWord left right h; are_words = All-tail IsWord left right h; is = cc }
rule_from ws l r f h e = absurd (omega (arith, r))

pub rule_words : (ws : List (List ℕ)) (l : Line) → AreFree ws → Says (line (joined (codes "rule" ∷ ws))) l → OfRuleLine ws
rule_words ws l f h = rule_from ws l (ranked (codes "rule") ws l 3 refl h) f h.are_words (says_text (joined (codes "rule" ∷ ws)) l h)

-- the name of a lexeme, and what stands behind it
pub record OfLexeme (ws : List (List ℕ)) : Type 0 where
  pub name : List ℕ
  pub text : Option (List ℕ)
  pub others : List (List ℕ)
  pub is_word : IsWord name
  pub are_bytes : AreBytes (bytes_in text)
  pub is : ws ≡ name ∷ others
  pub some : others ≡ [] → ⊥
  pub behind : joined others ≡ spelled_or_none text

lexeme_parts : (ws : List (List ℕ)) (name : List ℕ) (text : Option (List ℕ)) → AreFree ws → IsWord name → AreBytes (bytes_in text) → joined ws ≡ name ++ 32 ∷ spelled_or_none text → (ws ≡ [] → ⊥) → OfLexeme ws
lexeme_parts [] name text f is_word are_bytes e some = absurd (some refl)
lexeme_parts (w ∷ ws) name text f is_word are_bytes e some =
    let parts = next_word name (spelled_or_none text) w ws f (word_free name is_word) e in
    record {
      name = name;
      text = text;
      others = ws;
      is_word = is_word;
      are_bytes = are_bytes;
      is = ap (λ (v : List ℕ). v ∷ ws) parts.same;
      some = parts.some;
      behind = parts.behind;
    }

lexeme_bytes : (name : List ℕ) (text : Option (List ℕ)) → AreBytes (text_in (LexemeLine name text)) → AreBytes (bytes_in text)
lexeme_bytes name None b = b
lexeme_bytes name (Some text) b = b

lexeme_from : (ws : List (List ℕ)) (l : Line) → rank l ≡ 4 → AreFree ws → All IsWord (names l) → AreBytes (text_in l) → joined (codes "lexeme" ∷ ws) ≡ joined (words l) → OfLexeme ws
lexeme_from ws (LexemeLine name text) r f h b e =
    let parts = next_word (codes "lexeme") (name ++ 32 ∷ spelled_or_none text) (codes "lexeme") ws (refl, f) refl (e ∙ lexeme_text name text) in
    lexeme_parts ws name text f (All-head IsWord name [] h) (lexeme_bytes name text b) parts.behind parts.some
lexeme_from ws l r f h b e = absurd (omega (arith, r))

pub lexeme_words : (ws : List (List ℕ)) (l : Line) → AreFree ws → Says (line (joined (codes "lexeme" ∷ ws))) l → OfLexeme ws
lexeme_words ws l f h = lexeme_from ws l (ranked (codes "lexeme") ws l 4 refl h) f h.are_words h.are_bytes (says_text (joined (codes "lexeme" ∷ ws)) l h)

bytes_lexeme : (name : List ℕ) (text : Option (List ℕ)) → AreBytes (bytes_in text) → AreBytes (text_in (LexemeLine name text))
bytes_lexeme name None b = b
bytes_lexeme name (Some text) b = b

lexeme_joined : (ws behind : List (List ℕ)) (name text : List ℕ) → ws ≡ name ∷ behind → (behind ≡ [] → ⊥) → joined behind ≡ text → joined (codes "lexeme" ∷ ws) ≡ codes "lexeme" ++ 32 ∷ (name ++ 32 ∷ text)
lexeme_joined ws [] name text is some e = absurd (some refl)
lexeme_joined ws (v ∷ vs) name text is some e =
    ap (λ (us : List (List ℕ)). joined (codes "lexeme" ∷ us)) is ∙ ap (λ (t : List ℕ). codes "lexeme" ++ 32 ∷ (name ++ 32 ∷ t)) e

pub says_lexeme : (ws behind : List (List ℕ)) (name : List ℕ) (text : Option (List ℕ)) → IsWord name → AreBytes (bytes_in text) → ws ≡ name ∷ behind → (behind ≡ [] → ⊥) → joined behind ≡ spelled_or_none text → Says (line (joined (codes "lexeme" ∷ ws))) (LexemeLine name text)
says_lexeme ws behind name text is_word are_bytes is some e = record {
  text = ap line (lexeme_joined ws behind name (spelled_or_none text) is some e ∙ sym (lexeme_text name text));
  are_words = All-cons IsWord name [] is_word (All-nil IsWord);
  are_bytes = bytes_lexeme name text are_bytes;
}

pub record OfSet (ws : List (List ℕ)) : Type 0 where
  pub kind : SetKind
  pub named : List (List ℕ)
  pub are_words : All IsWord named
  pub is : ws ≡ set_word kind ∷ named

pub record OfRow (ws : List (List ℕ)) : Type 0 where
  pub kind : RowKind
  pub name : List ℕ
  pub named : List (List ℕ)
  pub is_word : IsWord name
  pub are_words : All IsWord named
  pub is : ws ≡ row_word kind ∷ name ∷ codes ":" ∷ named

abbrev pub OfClosed : List (List ℕ) → Type 0
OfClosed ws = OfSet ws ⊎ OfRow ws

closed_from : (ws : List (List ℕ)) (l : Line) → (rank l ≡ 5) ⊎ (rank l ≡ 6) → AreFree ws → All IsWord (names l) → joined (codes "closed" ∷ ws) ≡ joined (words l) → OfClosed ws
closed_from ws (SetLine kind named) r f h e =
    let same = joined_same (codes "closed") ws (codes "closed") (set_word kind ∷ named) (refl, f) (refl, set_free kind named (words_free named h)) e in
    let set : OfSet ws = record { kind = kind; named = named; are_words = h; is = cc } in
    inl set
closed_from ws (RowLine kind name named) r f h e =
    let free = words_free (name ∷ named) h in
    let same = joined_same (codes "closed") ws (codes "closed") (row_word kind ∷ name ∷ codes ":" ∷ named) (refl, f) (refl, row_free kind (name ∷ codes ":" ∷ named) (free.0, (refl, free.1))) e in
    let row : OfRow ws = record { kind = kind; name = name; named = named; is_word = All-head IsWord name named h; are_words = All-tail IsWord name named h; is = cc } in
    inr row
closed_from ws l r f h e = absurd (elim r [ inl s ↦ omega (arith, s) | inr s ↦ omega (arith, s) ])

pub closed_words : (ws : List (List ℕ)) (l : Line) → AreFree ws → Says (line (joined (codes "closed" ∷ ws))) l → OfClosed ws
closed_words ws l f h =
    let is_set = is_set_byte (at (codes "closed" ++ tail ws) 7) in
    let either = cases_cond is_set 5 6 (rank l) (ranked (codes "closed") ws l (cond is_set 5 6) refl h) in
    closed_from ws l either f h.are_words (says_text (joined (codes "closed" ∷ ws)) l h)

pub set_words : (kind : SetKind) (ws : List (List ℕ)) (l : Line) → AreFree ws → Says (line (joined (codes "closed" ∷ set_word kind ∷ ws))) l → All IsWord ws
set_words kind ws l f h =
    elim (closed_words (set_word kind ∷ ws) l (set_free kind ws f) h) [
      | inl set ↦ subst (All IsWord) (sym (same_behind refl set.is)) set.are_words
      | inr row ↦ absurd (set_not_row kind row.kind (same_front refl row.is))
    ]

-- a name, `:` and names
pub record OfNamed (ws : List (List ℕ)) : Type 0 where
  pub name : List ℕ
  pub named : List (List ℕ)
  pub is_word : IsWord name
  pub are_words : All IsWord named
  pub is : ws ≡ name ∷ codes ":" ∷ named

pub row_words : (kind : RowKind) (ws : List (List ℕ)) (l : Line) → AreFree ws → Says (line (joined (codes "closed" ∷ row_word kind ∷ ws))) l → OfNamed ws
row_words kind ws l f h =
    elim (closed_words (row_word kind ∷ ws) l (row_free kind ws f) h) [
      | inl set ↦ absurd (set_not_row set.kind kind (same_front set.is refl))
      | inr row ↦ record { name = row.name; named = row.named; is_word = row.is_word; are_words = row.are_words; is = same_behind refl row.is }
    ]

-- ---- lines behind the head

-- two numbers with a word between them
pub record OfTwo (word : List ℕ) (ws : List (List ℕ)) : Type 0 where
  pub first : ℕ
  pub second : ℕ
  pub is : ws ≡ numeral first ∷ word ∷ numeral second ∷ []

two_from : (front word : List ℕ) (n m : ℕ) (ws : List (List ℕ)) → free front ≡ true → free word ≡ true → AreFree ws → joined (front ∷ ws) ≡ joined (front ∷ numeral n ∷ word ∷ numeral m ∷ []) → OfTwo word ws
two_from front word n m ws front_free word_free f e =
    let same = joined_same front ws front (numeral n ∷ word ∷ numeral m ∷ []) (front_free, f) (front_free, (numeral_free n, (word_free, (numeral_free m, tt)))) e in
    record { first = n; second = m; is = cc }

case_from : (ws : List (List ℕ)) (l : Line) → rank l ≡ 7 → AreFree ws → joined (codes "case" ∷ ws) ≡ joined (words l) → OfTwo (codes "size") ws
case_from ws (CaseLine n size) r f e = two_from (codes "case") (codes "size") n size ws refl refl f e
case_from ws l r f e = absurd (omega (arith, r))

pub case_words : (ws : List (List ℕ)) (l : Line) → AreFree ws → Says (line (joined (codes "case" ∷ ws))) l → OfTwo (codes "size") ws
case_words ws l f h = case_from ws l (ranked (codes "case") ws l 7 refl h) f (says_text (joined (codes "case" ∷ ws)) l h)

pub record OfGoalLine (ws : List (List ℕ)) : Type 0 where
  pub number : ℕ
  pub goal : GoalWords
  pub verdict : VerdictWords
  pub are_words : All IsWord (goal_names goal)
  pub is : ws ≡ numeral number ∷ goal_words goal (verdict_words verdict)

goal_from : (ws : List (List ℕ)) (l : Line) → rank l ≡ 13 → AreFree ws → All IsWord (names l) → joined (codes "goal" ∷ ws) ≡ joined (words l) → OfGoalLine ws
goal_from ws (GoalLine n goal verdict) r f h e =
    let same = joined_same (codes "goal") ws (codes "goal") (numeral n ∷ goal_words goal (verdict_words verdict)) (refl, f) (refl, (numeral_free n, goal_free goal (verdict_words verdict) h (verdict_free verdict))) e in
    record { number = n; goal = goal; verdict = verdict; are_words = h; is = cc }
goal_from ws l r f h e = absurd (omega (arith, r))

pub goal_line_words : (ws : List (List ℕ)) (l : Line) → AreFree ws → Says (line (joined (codes "goal" ∷ ws))) l → OfGoalLine ws
goal_line_words ws l f h = goal_from ws l (ranked (codes "goal") ws l 13 refl h) f h.are_words (says_text (joined (codes "goal" ∷ ws)) l h)

base_from : (ws : List (List ℕ)) (l : Line) → rank l ≡ 14 → AreFree ws → joined (codes "base" ∷ ws) ≡ joined (words l) → OfTwo (codes "goal") ws
base_from ws (BaseLine n goal) r f e = two_from (codes "base") (codes "goal") n goal ws refl refl f e
base_from ws l r f e = absurd (omega (arith, r))

pub base_words : (ws : List (List ℕ)) (l : Line) → AreFree ws → Says (line (joined (codes "base" ∷ ws))) l → OfTwo (codes "goal") ws
base_words ws l f h = base_from ws l (ranked (codes "base") ws l 14 refl h) f (says_text (joined (codes "base" ∷ ws)) l h)

pub record OfNegative (ws : List (List ℕ)) : Type 0 where
  pub number : ℕ
  pub base : ℕ
  pub edit : EditWords
  pub left : List ℕ
  pub right : List ℕ
  pub place : ℕ
  pub left_word : IsWord left
  pub right_word : IsWord right
  pub are_words : All IsWord (edit_names edit)
  pub is : ws ≡ numeral number ∷ codes "base" ∷ numeral base ∷ edit_words edit (pair_words left right place)

negative_from : (ws : List (List ℕ)) (l : Line) → rank l ≡ 15 → AreFree ws → All IsWord (names l) → joined (codes "negative" ∷ ws) ≡ joined (words l) → OfNegative ws
negative_from ws (NegativeLine n base edit left right at) r f h e =
    let free = negative_free n base edit left right at h in
    let same = joined_same (codes "negative") ws (codes "negative") (numeral n ∷ codes "base" ∷ numeral base ∷ edit_words edit (pair_words left right at)) (refl, f) free e in
    let others = All-tail IsWord left (right ∷ edit_names edit) h in
    record {
      number = n;
      base = base;
      edit = edit;
      left = left;
      right = right;
      place = at;
      left_word = All-head IsWord left (right ∷ edit_names edit) h;
      right_word = All-head IsWord right (edit_names edit) others;
      are_words = All-tail IsWord right (edit_names edit) others;
      is = cc;
    }
negative_from ws l r f h e = absurd (omega (arith, r))

pub negative_words : (ws : List (List ℕ)) (l : Line) → AreFree ws → Says (line (joined (codes "negative" ∷ ws))) l → OfNegative ws
negative_words ws l f h = negative_from ws l (ranked (codes "negative") ws l 15 refl h) f h.are_words (says_text (joined (codes "negative" ∷ ws)) l h)

pub record OfEnd (ws : List (List ℕ)) : Type 0 where
  pub counts : Counts
  pub is : ws ≡ tail_of counts

end_from : (ws : List (List ℕ)) (l : Line) → rank l ≡ 16 → AreFree ws → joined (codes "end" ∷ ws) ≡ joined (words l) → OfEnd ws
end_from ws (EndLine counts) r f e =
    let same = joined_same (codes "end") ws (codes "end") (tail_of counts) (refl, f) (counts_free counts) e in
    record { counts = counts; is = cc }
end_from ws l r f e = absurd (omega (arith, r))

pub end_words : (ws : List (List ℕ)) (l : Line) → AreFree ws → Says (line (joined (codes "end" ∷ ws))) l → OfEnd ws
end_words ws l f h = end_from ws l (ranked (codes "end") ws l 16 refl h) f (says_text (joined (codes "end" ∷ ws)) l h)
