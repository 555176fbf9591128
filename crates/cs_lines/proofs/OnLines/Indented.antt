-- What words an indented line has.
use Rattle.std.proofs.Common.{◌≡◌, ℕ, false, cond, ◌⊎◌, inl, inr, List, [], ◌∷◌, ◌++◌, None, Some, map, refl, sym, ap, ◌∙◌, arith}
use Rattle.std.specs.Prelude.{◌==◌, codes, All}
use Rattle.std.proofs.lemmas.Bool.{both_ways, eq-eqb, cases_cond}
use Rattle.std.proofs.lemmas.List.Elements.{All-nil, All-head}
use Rattle.cs_pattern_parts.specs.Items.StandsFor.{AreBytes}
use Rattle.cs_lines.specs.Words.Words.{line, numeral, quoted, IsWord}
use Rattle.cs_lines.specs.Lines.Line.{Line, LexemeLine, DeriveLine, TokensLine, TextLine, NoLexemeLine, NoScanLine}
use Rattle.cs_lines.specs.Lines.Texts.{joined, words, names, text_in, Says}
use Rattle.cs_lines.proofs.OnTexts.Words.{AreFree, joined_same, words_free, numeral_free, numerals_free}
use Rattle.cs_lines.proofs.OnTexts.OneLine.{at, rank, tag, tagged, apart, one_name}
use Rattle.cs_lines.proofs.OnLines.Splits.{tail, joined_tail, next_word}
use Rattle.cs_lines.proofs.OnLines.Forms.{says_text}
use Rattle.cs_lines.proofs.OnLines.Parts.{same_front, same_behind, same_behind_two}

indented_ranked : (w : List ℕ) (ws : List (List ℕ)) (l : Line) (r : ℕ) → tag (32 ∷ 32 ∷ (w ++ tail ws)) ≡ r → Says (line (joined ([] ∷ [] ∷ w ∷ ws))) l → rank l ≡ r
indented_ranked w ws l r is h =
    let text = says_text (joined ([] ∷ [] ∷ w ∷ ws)) l h in
    sym (tagged l) ∙ sym (ap tag text) ∙ ap (λ (t : List ℕ). tag (32 ∷ 32 ∷ t)) (joined_tail w ws) ∙ is

-- ---- derivations

pub record OfDerivation (ws : List (List ℕ)) : Type 0 where
  pub rules : List ℕ
  pub is : ws ≡ map numeral rules

derivation_from : (ws : List (List ℕ)) (l : Line) → rank l ≡ 8 → AreFree ws → joined ([] ∷ [] ∷ codes "derive" ∷ ws) ≡ joined (words l) → OfDerivation ws
derivation_from ws (DeriveLine rules) r f e =
    let same = joined_same [] ([] ∷ codes "derive" ∷ ws) [] ([] ∷ codes "derive" ∷ map numeral rules) (refl, (refl, (refl, f))) (refl, (refl, (refl, numerals_free rules))) e in
    record { rules = rules; is = cc }
derivation_from ws l r f e = absurd (omega (arith, r))

pub derivation_words : (ws : List (List ℕ)) (l : Line) → AreFree ws → Says (line (joined ([] ∷ [] ∷ codes "derive" ∷ ws))) l → OfDerivation ws
derivation_words ws l f h =
    derivation_from ws l (indented_ranked (codes "derive") ws l 8 refl h) f (says_text (joined ([] ∷ [] ∷ codes "derive" ∷ ws)) l h)

-- ---- tokens

pub record OfTokens (ws : List (List ℕ)) : Type 0 where
  pub named : List (List ℕ)
  pub are_words : All IsWord named
  pub is : ws ≡ named

tokens_from : (ws : List (List ℕ)) (l : Line) → rank l ≡ 9 → AreFree ws → All IsWord (names l) → joined ([] ∷ [] ∷ codes "tokens" ∷ ws) ≡ joined (words l) → OfTokens ws
tokens_from ws (TokensLine named) r f h e =
    let same = joined_same [] ([] ∷ codes "tokens" ∷ ws) [] ([] ∷ codes "tokens" ∷ named) (refl, (refl, (refl, f))) (refl, (refl, (refl, words_free named h))) e in
    record { named = named; are_words = h; is = cc }
tokens_from ws l r f h e = absurd (omega (arith, r))

pub tokens_words : (ws : List (List ℕ)) (l : Line) → AreFree ws → Says (line (joined ([] ∷ [] ∷ codes "tokens" ∷ ws))) l → OfTokens ws
tokens_words ws l f h =
    tokens_from ws l (indented_ranked (codes "tokens") ws l 9 refl h) f h.are_words (says_text (joined ([] ∷ [] ∷ codes "tokens" ∷ ws)) l h)

-- ---- texts

pub record OfText (ws : List (List ℕ)) : Type 0 where
  pub text : List ℕ
  pub are_bytes : AreBytes text
  pub some : ws ≡ [] → ⊥
  pub behind : joined ws ≡ quoted text

text_from : (ws : List (List ℕ)) (l : Line) → rank l ≡ 10 → AreFree ws → AreBytes (text_in l) → joined ([] ∷ [] ∷ codes "text" ∷ ws) ≡ joined (words l) → OfText ws
text_from ws (TextLine text) r f b e =
    let inner : joined (codes "text" ∷ ws) ≡ codes "text" ++ 32 ∷ quoted text = cc in
    let parts = next_word (codes "text") (quoted text) (codes "text") ws (refl, f) refl inner in
    record { text = text; are_bytes = b; some = parts.some; behind = parts.behind }
text_from ws l r f b e = absurd (omega (arith, r))

pub text_words : (ws : List (List ℕ)) (l : Line) → AreFree ws → Says (line (joined ([] ∷ [] ∷ codes "text" ∷ ws))) l → OfText ws
text_words ws l f h =
    text_from ws l (indented_ranked (codes "text") ws l 10 refl h) f h.are_bytes (says_text (joined ([] ∷ [] ∷ codes "text" ∷ ws)) l h)

text_joined : (ws : List (List ℕ)) (text : List ℕ) → (ws ≡ [] → ⊥) → joined ws ≡ text → joined ([] ∷ [] ∷ codes "text" ∷ ws) ≡ 32 ∷ 32 ∷ (codes "text" ++ 32 ∷ text)
text_joined [] text some e = absurd (some refl)
text_joined (v ∷ vs) text some e = ap (λ (t : List ℕ). 32 ∷ 32 ∷ (codes "text" ++ 32 ∷ t)) e

pub says_text_line : (ws : List (List ℕ)) (text : List ℕ) → AreBytes text → (ws ≡ [] → ⊥) → joined ws ≡ quoted text → Says (line (joined ([] ∷ [] ∷ codes "text" ∷ ws))) (TextLine text)
says_text_line ws text are_bytes some e = record {
  text = ap line (text_joined ws (quoted text) some e);
  are_words = All-nil IsWord;
  are_bytes = are_bytes;
}

-- ---- why there is no text

pub record OfNoLexeme (ws : List (List ℕ)) : Type 0 where
  pub name : List ℕ
  pub is_word : IsWord name
  pub is : ws ≡ codes "text" ∷ codes "lexeme" ∷ name ∷ []

pub record OfNoScan (ws : List (List ℕ)) : Type 0 where
  pub after : ℕ
  pub is : ws ≡ codes "text" ∷ codes "scan" ∷ numeral after ∷ []

abbrev pub OfNoText : List (List ℕ) → Type 0
OfNoText ws = OfNoLexeme ws ⊎ OfNoScan ws

no_text_from : (ws : List (List ℕ)) (l : Line) → (rank l ≡ 11) ⊎ (rank l ≡ 12) → AreFree ws → All IsWord (names l) → joined ([] ∷ [] ∷ codes "no" ∷ ws) ≡ joined (words l) → OfNoText ws
no_text_from ws (NoLexemeLine name) r f h e =
    let free = one_name name h in
    let same = joined_same [] ([] ∷ codes "no" ∷ ws) [] ([] ∷ codes "no" ∷ codes "text" ∷ codes "lexeme" ∷ name ∷ []) (refl, (refl, (refl, f))) (refl, (refl, (refl, (refl, (refl, free))))) e in
    let no_lexeme : OfNoLexeme ws = record { name = name; is_word = All-head IsWord name [] h; is = cc } in
    inl no_lexeme
no_text_from ws (NoScanLine after) r f h e =
    let same = joined_same [] ([] ∷ codes "no" ∷ ws) [] ([] ∷ codes "no" ∷ codes "text" ∷ codes "scan" ∷ numeral after ∷ []) (refl, (refl, (refl, f))) (refl, (refl, (refl, (refl, (refl, (numeral_free after, tt)))))) e in
    let no_scan : OfNoScan ws = record { after = after; is = cc } in
    inr no_scan
no_text_from ws l r f h e = absurd (elim r [ inl s ↦ omega (arith, s) | inr s ↦ omega (arith, s) ])

pub no_text_words : (ws : List (List ℕ)) (l : Line) → AreFree ws → Says (line (joined ([] ∷ [] ∷ codes "no" ∷ ws))) l → OfNoText ws
no_text_words ws l f h =
    let is_lexeme = at (32 ∷ 32 ∷ (codes "no" ++ tail ws)) 10 == 108 in
    let either = cases_cond is_lexeme 11 12 (rank l) (indented_ranked (codes "no") ws l (cond is_lexeme 11 12) refl h) in
    no_text_from ws l either f h.are_words (says_text (joined ([] ∷ [] ∷ codes "no" ∷ ws)) l h)

pub record OfName (ws : List (List ℕ)) : Type 0 where
  pub name : List ℕ
  pub is_word : IsWord name
  pub is : ws ≡ name ∷ []

pub record OfNumber (ws : List (List ℕ)) : Type 0 where
  pub number : ℕ
  pub is : ws ≡ numeral number ∷ []

pub no_lexeme_words : (ws : List (List ℕ)) (l : Line) → AreFree ws → Says (line (joined ([] ∷ [] ∷ codes "no" ∷ codes "text" ∷ codes "lexeme" ∷ ws))) l → OfName ws
no_lexeme_words ws l f h =
    elim (no_text_words (codes "text" ∷ codes "lexeme" ∷ ws) l (refl, (refl, f)) h) [
      | inl lexeme ↦ record { name = lexeme.name; is_word = lexeme.is_word; is = same_behind_two refl lexeme.is }
      | inr scan ↦ absurd (apart (codes "lexeme") (codes "scan") refl (same_front refl (same_behind refl scan.is)))
    ]

pub no_scan_words : (ws : List (List ℕ)) (l : Line) → AreFree ws → Says (line (joined ([] ∷ [] ∷ codes "no" ∷ codes "text" ∷ codes "scan" ∷ ws))) l → OfNumber ws
no_scan_words ws l f h =
    elim (no_text_words (codes "text" ∷ codes "scan" ∷ ws) l (refl, (refl, f)) h) [
      | inl lexeme ↦ absurd (apart (codes "scan") (codes "lexeme") refl (same_front refl (same_behind refl lexeme.is)))
      | inr scan ↦ record { number = scan.after; is = same_behind_two refl scan.is }
    ]

-- the word behind `text` is one of two
pub no_reason : (word : List ℕ) (behind all : List (List ℕ)) → all ≡ codes "text" ∷ word ∷ behind → (word ≡ codes "lexeme" → ⊥) → (word ≡ codes "scan" → ⊥) → OfNoText all → ⊥
no_reason word behind all p n m either =
    elim either [
      | inl lexeme ↦ n (same_front refl (same_behind p lexeme.is))
      | inr scan ↦ m (same_front refl (same_behind p scan.is))
    ]

-- there is a word behind `text`
pub some_reason : (behind all : List (List ℕ)) → all ≡ codes "text" ∷ behind → behind ≡ [] → OfNoText all → ⊥
some_reason behind all p none either =
    elim either [
      | inl lexeme ↦ (let both : [] ≡ codes "lexeme" ∷ lexeme.name ∷ [] = sym none ∙ same_behind p lexeme.is in absurd cc)
      | inr scan ↦ (let both : [] ≡ codes "scan" ∷ numeral scan.after ∷ [] = sym none ∙ same_behind p scan.is in absurd cc)
    ]

-- it is `text`
pub text_word : (all : List (List ℕ)) → OfNoText all → (others : List (List ℕ)) × (all ≡ codes "text" ∷ others)
text_word all either =
    elim either [
      | inl lexeme ↦ (codes "lexeme" ∷ lexeme.name ∷ [], lexeme.is)
      | inr scan ↦ (codes "scan" ∷ numeral scan.after ∷ [], scan.is)
    ]

-- ---- an indented line begins with two empty words, and with a word that tells its form

pub data IsKnown (word : List ℕ) : Type 0 where
  Tokens : word ≡ codes "tokens" → IsKnown word
  Text : word ≡ codes "text" → IsKnown word
  Derivation : word ≡ codes "derive" → IsKnown word
  NoText : word ≡ codes "no" → IsKnown word

pub record OfIndented (ws : List (List ℕ)) : Type 0 where
  pub word : List ℕ
  pub others : List (List ℕ)
  pub is : ws ≡ [] ∷ word ∷ others
  pub known : IsKnown word

-- two empty words, and others behind them
record TwoEmpty (ws : List (List ℕ)) (rest : List ℕ) : Type 0 where
  pub word : List ℕ
  pub others : List (List ℕ)
  pub is : ws ≡ [] ∷ word ∷ others
  pub are_free : AreFree (word ∷ others)
  pub behind : joined (word ∷ others) ≡ rest

two_parts : (rest u : List ℕ) (us : List (List ℕ)) → AreFree us → u ≡ [] → (us ≡ [] → ⊥) → joined us ≡ rest → TwoEmpty (u ∷ us) rest
two_parts rest u [] f empty some behind = absurd (some refl)
two_parts rest u (v ∷ vs) f empty some behind = record {
  word = v;
  others = vs;
  is = ap (λ (w : List ℕ). w ∷ v ∷ vs) empty;
  are_free = f;
  behind = behind;
}

two_empty : (rest : List ℕ) (ws : List (List ℕ)) → AreFree ws → joined ([] ∷ ws) ≡ 32 ∷ 32 ∷ rest → TwoEmpty ws rest
two_empty rest [] f e = absurd cc
two_empty rest (u ∷ us) f e =
    let inner : joined (u ∷ us) ≡ 32 ∷ rest = cc in
    let parts = next_word [] rest u us f refl inner in
    two_parts rest u us f.1 parts.same parts.some parts.behind

-- what is joined begins with another byte than a space
not_indented : (ws : List (List ℕ)) (text : List ℕ) → (at text 0 == 32) ≡ false → (at text 0 == 0) ≡ false → joined ([] ∷ ws) ≡ text → ⊥
not_indented [] text other some e = both_ways (at text 0 == 0) some (eq-eqb (at text 0) 0 (ap (λ (t : List ℕ). at t 0) (sym e)))
not_indented (w ∷ ws) text other some e = both_ways (at text 0 == 32) other (eq-eqb (at text 0) 32 (ap (λ (t : List ℕ). at t 0) (sym e)))

-- the word in front is the same
same_first : (w : List ℕ) (vs : List (List ℕ)) (ws : List (List ℕ)) → AreFree (w ∷ vs) → (two : TwoEmpty ws (joined (w ∷ vs))) → two.word ≡ w
same_first w vs ws f two = let same = joined_same two.word two.others w vs two.are_free f two.behind in cc

indented_from : (ws : List (List ℕ)) (l : Line) → AreFree ws → All IsWord (names l) → joined ([] ∷ ws) ≡ joined (words l) → OfIndented ws
indented_from ws (DeriveLine rules) f h e =
    let two = two_empty (joined (codes "derive" ∷ map numeral rules)) ws f e in
    let known : IsKnown two.word = Derivation (same_first (codes "derive") (map numeral rules) ws (refl, numerals_free rules) two) in
    record { word = two.word; others = two.others; is = two.is; known = known }
indented_from ws (TokensLine named) f h e =
    let two = two_empty (joined (codes "tokens" ∷ named)) ws f e in
    let known : IsKnown two.word = Tokens (same_first (codes "tokens") named ws (refl, words_free named h) two) in
    record { word = two.word; others = two.others; is = two.is; known = known }
indented_from ws (TextLine text) f h e =
    let two = two_empty (codes "text" ++ 32 ∷ quoted text) ws f e in
    let parts = next_word (codes "text") (quoted text) two.word two.others two.are_free refl two.behind in
    let known : IsKnown two.word = Text parts.same in
    record { word = two.word; others = two.others; is = two.is; known = known }
indented_from ws (NoLexemeLine name) f h e =
    let others = codes "text" ∷ codes "lexeme" ∷ name ∷ [] in
    let two = two_empty (joined (codes "no" ∷ others)) ws f e in
    let free = one_name name h in
    let known : IsKnown two.word = NoText (same_first (codes "no") others ws (refl, (refl, (refl, free))) two) in
    record { word = two.word; others = two.others; is = two.is; known = known }
indented_from ws (NoScanLine after) f h e =
    let others = codes "text" ∷ codes "scan" ∷ numeral after ∷ [] in
    let two = two_empty (joined (codes "no" ∷ others)) ws f e in
    let known : IsKnown two.word = NoText (same_first (codes "no") others ws (refl, (refl, (refl, (numeral_free after, tt)))) two) in
    record { word = two.word; others = two.others; is = two.is; known = known }
indented_from ws (LexemeLine name None) f h e = absurd (not_indented ws (joined (words (LexemeLine name None))) refl refl e)
indented_from ws (LexemeLine name (Some text)) f h e = absurd (not_indented ws (joined (words (LexemeLine name (Some text)))) refl refl e)
indented_from ws l f h e = absurd (not_indented ws (joined (words l)) refl refl e)

pub indented_words : (ws : List (List ℕ)) (l : Line) → AreFree ws → Says (line (joined ([] ∷ ws))) l → OfIndented ws
indented_words ws l f h = indented_from ws l f h.are_words (says_text (joined ([] ∷ ws)) l h)

pub not_known : (word : List ℕ) → (word ≡ codes "tokens" → ⊥) → (word ≡ codes "text" → ⊥) → (word ≡ codes "derive" → ⊥) → (word ≡ codes "no" → ⊥) → IsKnown word → ⊥
not_known word k t d n (Tokens e) = k e
not_known word k t d n (Text e) = t e
not_known word k t d n (Derivation e) = d e
not_known word k t d n (NoText e) = n e
