-- The names of a file are words, and no two symbols have one name.
use Rattle.std.proofs.Common.{◌≡◌, ◌≢◌, ◌⊎◌, ℕ, ◌+◌, ◌-◌, ◌/◌, ◌%◌, ◌<◌, ◌≤◌, Bool, true, false, not, List, [], ◌∷◌, ◌++◌, Option, map, length, length-append, get_or, refl, sym, ap, ◌∙◌, subst, inl, inr, ⊎_elim, arith, unwrap_or}
use Rattle.std.specs.Prelude.{◌==◌, ◌||◌, ◌&&◌, IsTrue, All, codes, nat_le}
use Rattle.std.specs.List.{AllByRecursion}
use Rattle.std.specs.Option.{option_map_or}
use Rattle.std.proofs.lemmas.Bool.{false≢true, and_parts, cases_Bool, leb-true, eqb-true, cond-true, cond-false}
use Rattle.std.proofs.lemmas.List.{get_or_append_left, get_or-append-add, length-map, get_or-map}
use Rattle.std.proofs.lemmas.List.Elements.{All-nil, All-cons, All-append, All-from_recursion}
use Rattle.std.proofs.lemmas.Option.{slice_get-get_or}
use Rattle.cs_bytes.specs.Classes.{is_between, is_letter, is_digit, begins_word, is_word_byte}
use Rattle.cs_bytes.specs.Escapes.{literal, literal_byte, is_plain_literal, escaped, hexadecimal_digit}
use Rattle.cs_grammar.specs.declared.symbol.Mark.{Mark}
use Rattle.cs_grammar.specs.declared.symbol.Mark.TheVariants as marks
use Rattle.cs_grammar.specs.declared.symbol.Symbol.{Symbol}
use Rattle.cs_grammar.specs.declared.symbol.Symbol.TheVariants as symbols
use Rattle.cs_grammar.specs.Grammar.{IsNumberOf, IsSymbol}
use Rattle.cs_yacc.specs.declared.reading.name.TokenName.{TokenName}
use Rattle.cs_yacc.specs.declared.reading.name.TokenName.TheVariants.{Word, Byte}
use Rattle.cs_yacc.specs.Items.Bytes.{begins_name, is_name_byte}
use Rattle.cs_yacc.specs.Items.Items.{IsName}
use Rattle.cs_yacc.specs.Reading.File.{File}
use Rattle.cs_lines.specs.Words.Words.{IsVisible, IsWord}
use Rattle.cs_lines.specs.Words.Names.{token_text, token_of, nonterminal_of, symbol_text, mark_text, IsTokenNamed, IsNonterminalNamed}
use Rattle.cs_lines.proofs.OnTexts.Quotes.{low_digit, high_digit, escaped_same}
use Rattle.cs_accord.specs.Named.{IsTokenName, IsNamedFile}

-- ---- the bytes of names

-- a byte of a name: none is a quote or `<`
record IsPlain (b : ℕ) : Type 0 where
  least : 46 ≤ b
  most : b ≤ 122
  other : b ≢ 60

or_cases : (b c : Bool) → (b || c) ≡ true → (b ≡ true) ⊎ (c ≡ true)
or_cases true c h = inl refl
or_cases false c h = inr h

between : (first last b : ℕ) → is_between first last b ≡ true → (first ≤ b) × (b ≤ last)
between first last b h = let parts = and_parts (nat_le first b) (nat_le b last) h in (leb-true first b parts.0, leb-true b last parts.1)

plain_from : (first last b : ℕ) → 61 ≤ first → last ≤ 122 → is_between first last b ≡ true → IsPlain b
plain_from first last b low high h =
    let is = between first last b h in
    record { least = omega (arith, is.0, low); most = omega (arith, is.1, high); other = λ e. omega (arith, is.0, low, e) }

plain_letter : (b : ℕ) → is_letter b ≡ true → IsPlain b
plain_letter b h =
    ⊎_elim (λ upper. plain_from 65 90 b (omega arith) (omega arith) upper) (λ lower. plain_from 97 122 b (omega arith) (omega arith) lower)
    (or_cases (is_between 65 90 b) (is_between 97 122 b) h)

plain_at : (b n : ℕ) → 46 ≤ n → n ≤ 122 → n ≢ 60 → (b == n) ≡ true → IsPlain b
plain_at b n low high not_sign h =
    let is = eqb-true b n h in record { least = omega (arith, is, low); most = omega (arith, is, high); other = λ e. not_sign (sym is ∙ e) }

plain_word_start : (b : ℕ) → begins_word b ≡ true → IsPlain b
plain_word_start b h = ⊎_elim (plain_letter b) (plain_at b 95 (omega arith) (omega arith) (λ e. omega (arith, e))) (or_cases (is_letter b) (b == 95) h)

plain_digit : (b : ℕ) → is_digit b ≡ true → IsPlain b
plain_digit b h = let is = between 48 57 b h in record { least = omega (arith, is.0); most = omega (arith, is.1); other = λ e. omega (arith, is.1, e) }

plain_word_byte : (b : ℕ) → is_word_byte b ≡ true → IsPlain b
plain_word_byte b h = ⊎_elim (plain_word_start b) (plain_digit b) (or_cases (begins_word b) (is_digit b) h)

plain_name_byte : (b : ℕ) → is_name_byte b ≡ true → IsPlain b
plain_name_byte b h = ⊎_elim (plain_word_byte b) (plain_at b 46 (omega arith) (omega arith) (λ e. omega (arith, e))) (or_cases (is_word_byte b) (b == 46) h)

plain_front : (b : ℕ) → begins_name b ≡ true → IsPlain b
plain_front b h = ⊎_elim (plain_word_start b) (plain_at b 46 (omega arith) (omega arith) (λ e. omega (arith, e))) (or_cases (begins_word b) (b == 46) h)

plain_visible : (b : ℕ) → IsPlain b → IsVisible b
plain_visible b p = (omega (arith, p.least), omega (arith, p.most))

plain_all : (w : List ℕ) → AllByRecursion (λ c. IsTrue (is_name_byte c)) w → All IsVisible w
plain_all [] h = All-nil IsVisible
plain_all (b ∷ w) h = All-cons IsVisible b w (plain_visible b (plain_name_byte b h.0)) (plain_all w h.1)

pub name_word : (w : List ℕ) → IsName w → IsWord w
name_word [] h = absurd h
name_word (b ∷ w) h = record {
  some = omega arith;
  visible = All-cons IsVisible b w (plain_visible b (plain_front b h.0)) (plain_all w h.1);
}

-- a name's first byte
name_front : (w : List ℕ) → IsName w → IsPlain (get_or w 0 0)
name_front [] h = absurd h
name_front (b ∷ w) h = plain_front b h.0

-- ---- literals

plain_literal : (b : ℕ) → is_plain_literal b ≡ true → literal_byte b ≡ b ∷ []
plain_literal b p = cond-true (is_plain_literal b) (b ∷ []) (escaped b) p

hidden_literal : (b : ℕ) → is_plain_literal b ≡ false → literal_byte b ≡ escaped b
hidden_literal b p = cond-false (is_plain_literal b) (b ∷ []) (escaped b) p

digit_visible : (n : ℕ) → n < 16 → IsVisible (hexadecimal_digit n)
digit_visible n low =
    elim (cases_Bool (nat_le n 9)) [
      | inl p ↦ (let is = low_digit n p in let few = leb-true n 9 p in (omega (arith, is), omega (arith, is, few)))
      | inr p ↦ (let is = high_digit n p in (omega (arith, is), omega (arith, is, low)))
    ]

escaped_visible : (b : ℕ) → b < 256 → All IsVisible (escaped b)
escaped_visible b low =
    let high = digit_visible (b / 16) (omega (arith, low)) in
    let rest = digit_visible (b % 16) (omega arith) in
    All-cons IsVisible 92 (120 ∷ hexadecimal_digit (b / 16) ∷ hexadecimal_digit (b % 16) ∷ []) (omega arith, omega arith)
    (All-cons IsVisible 120 (hexadecimal_digit (b / 16) ∷ hexadecimal_digit (b % 16) ∷ []) (omega arith, omega arith)
    (All-cons IsVisible (hexadecimal_digit (b / 16)) (hexadecimal_digit (b % 16) ∷ []) high
    (All-cons IsVisible (hexadecimal_digit (b % 16)) [] rest (All-nil IsVisible))))

-- a plain byte is visible, and no backslash
plain_parts : (b : ℕ) → is_plain_literal b ≡ true → IsVisible b × (b ≡ 92 → ⊥)
plain_parts b p =
    let outer = and_parts (nat_le 33 b && nat_le b 126 && not (b == 39)) (not (b == 92)) p in
    let inner = and_parts (nat_le 33 b && nat_le b 126) (not (b == 39)) outer.0 in
    let ends = and_parts (nat_le 33 b) (nat_le b 126) inner.0 in
    ((leb-true 33 b ends.0, leb-true b 126 ends.1), λ e. false≢true (subst (λ c. not (c == 92) ≡ true) e outer.1))

byte_visible : (b : ℕ) → b < 256 → All IsVisible (literal_byte b)
byte_visible b low =
    elim (cases_Bool (is_plain_literal b)) [
      | inl p ↦ subst (All IsVisible) (sym (plain_literal b p)) (All-cons IsVisible b [] (plain_parts b p).0 (All-nil IsVisible))
      | inr p ↦ subst (All IsVisible) (sym (hidden_literal b p)) (escaped_visible b low)
    ]

literal_word : (b : ℕ) → b < 256 → IsWord (literal b)
literal_word b low = record {
  some = omega arith;
  visible = All-cons IsVisible 39 (literal_byte b ++ 39 ∷ []) (omega arith, omega arith)
      (All-append IsVisible (literal_byte b) (39 ∷ []) (byte_visible b low) (All-cons IsVisible 39 [] (omega arith, omega arith) (All-nil IsVisible)));
}

bytes_same : (b c : ℕ) → literal_byte b ++ 39 ∷ [] ≡ literal_byte c ++ 39 ∷ [] → b ≡ c
bytes_same b c e =
    elim (cases_Bool (is_plain_literal b)) [
      | inl p ↦
          (elim (cases_Bool (is_plain_literal c)) [
            | inl q ↦
                (let both : b ∷ 39 ∷ [] ≡ c ∷ 39 ∷ [] = sym (ap (λ (l : List ℕ). l ++ 39 ∷ []) (plain_literal b p)) ∙ e ∙ ap (λ (l : List ℕ). l ++ 39 ∷ []) (plain_literal c q) in
                cc)
            | inr q ↦
                (let both : b ∷ 39 ∷ [] ≡ escaped c ++ 39 ∷ [] = sym (ap (λ (l : List ℕ). l ++ 39 ∷ []) (plain_literal b p)) ∙ e ∙ ap (λ (l : List ℕ). l ++ 39 ∷ []) (hidden_literal c q) in
                absurd ((plain_parts b p).1 (cc)))
          ])
      | inr p ↦
          (elim (cases_Bool (is_plain_literal c)) [
            | inl q ↦
                (let both : escaped b ++ 39 ∷ [] ≡ c ∷ 39 ∷ [] = sym (ap (λ (l : List ℕ). l ++ 39 ∷ []) (hidden_literal b p)) ∙ e ∙ ap (λ (l : List ℕ). l ++ 39 ∷ []) (plain_literal c q) in
                let same : 92 ≡ c = cc in
                absurd ((plain_parts c q).1 (sym same)))
            | inr q ↦
                (escaped_same b c (39 ∷ []) (39 ∷ [])
                (sym (ap (λ (l : List ℕ). l ++ 39 ∷ []) (hidden_literal b p)) ∙ e ∙ ap (λ (l : List ℕ). l ++ 39 ∷ []) (hidden_literal c q))).0
          ])
    ]

-- ---- tokens' names

pub token_word : (name : TokenName) → IsTokenName name → IsWord (token_text name)
token_word (Word w) h = name_word w h
token_word (Byte b) h = literal_word b h

-- a name is no literal
apart : (w : List ℕ) (b : ℕ) → IsName w → w ≡ literal b → ⊥
apart w b h e = let p = name_front w h in let same : get_or w 0 0 ≡ 39 = ap (λ (l : List ℕ). get_or l 0 0) e in let least = p.least in omega (arith, same, least)

same_token_text : (a b : TokenName) → IsTokenName a → IsTokenName b → token_text a ≡ token_text b → a ≡ b
same_token_text (Word v) (Word w) h k e = ap Word e
same_token_text (Word v) (Byte b) h k e = absurd (apart v b h e)
same_token_text (Byte a) (Word w) h k e = absurd (apart w a k (sym e))
same_token_text (Byte a) (Byte b) h k e = let rest : literal_byte a ++ 39 ∷ [] ≡ literal_byte b ++ 39 ∷ [] = cc in ap Byte (bytes_same a b rest)

-- a token's name is no mark
not_end : (name : TokenName) → IsTokenName name → token_text name ≡ codes "<end>" → ⊥
not_end (Word w) h e = let p = name_front w h in p.other (ap (λ (l : List ℕ). get_or l 0 0) e)
not_end (Byte b) h e = let same : 39 ≡ 60 = ap (λ (l : List ℕ). get_or l 0 0) e in omega (arith, same)

-- ---- the symbols of a file

module _ (file : File) (named : IsNamedFile file) where
  -- the name of token t, by any other name
  token_is : (t : ℕ) → IsNumberOf file.grammar.tokens t → (d : TokenName) → token_of file t ≡ token_text (get_or file.token_names (t - 1) d)
  token_is t is d =
      let low : t - 1 < length file.token_names = omega (arith, is.0, is.1, named.is.tokens) in
      ap (λ (o : Option TokenName). option_map_or token_text o []) (slice_get-get_or file.token_names (t - 1) d low)

  nonterminal_is : (n : ℕ) → IsNumberOf file.grammar.nonterminals n → (d : List ℕ) → nonterminal_of file n ≡ get_or file.nonterminal_names (n - 1) d
  nonterminal_is n is d =
      let low : n - 1 < length file.nonterminal_names = omega (arith, is.0, is.1, named.is.nonterminals) in
      ap (λ (o : Option (List ℕ)). unwrap_or o []) (slice_get-get_or file.nonterminal_names (n - 1) d low)

  token_low : (t : ℕ) → IsNumberOf file.grammar.tokens t → t - 1 < length file.token_names
  token_low t is = omega (arith, is.0, is.1, named.is.tokens)

  nonterminal_low : (n : ℕ) → IsNumberOf file.grammar.nonterminals n → n - 1 < length file.nonterminal_names
  nonterminal_low n is = omega (arith, is.0, is.1, named.is.nonterminals)

  token_name_is : (t : ℕ) → IsNumberOf file.grammar.tokens t → IsTokenName (get_or file.token_names (t - 1) (Byte 0))
  token_name_is t is = named.tokens (t - 1) (Byte 0) (token_low t is)

  nonterminal_name_is : (n : ℕ) → IsNumberOf file.grammar.nonterminals n → IsName (get_or file.nonterminal_names (n - 1) [])
  nonterminal_name_is n is = named.nonterminals (n - 1) [] (nonterminal_low n is)

  pub token_is_word : (t : ℕ) → IsNumberOf file.grammar.tokens t → IsWord (token_of file t)
  token_is_word t is = subst IsWord (sym (token_is t is (Byte 0))) (token_word (get_or file.token_names (t - 1) (Byte 0)) (token_name_is t is))

  pub nonterminal_is_word : (n : ℕ) → IsNumberOf file.grammar.nonterminals n → IsWord (nonterminal_of file n)
  nonterminal_is_word n is = subst IsWord (sym (nonterminal_is n is [])) (name_word (get_or file.nonterminal_names (n - 1) []) (nonterminal_name_is n is))

  pub symbol_is_word : (x : Symbol) → IsSymbol file.grammar.tokens file.grammar.nonterminals x → IsWord (symbol_text file x)
  symbol_is_word (symbols.Token t) is = token_is_word t is
  symbol_is_word (symbols.Nonterminal n) is = nonterminal_is_word n is

  -- the numbers of a mark's token are of the file
  abbrev pub IsMark : Mark → Type 0
  IsMark marks.Begin = Unit {0}
  IsMark (marks.Token t) = IsNumberOf file.grammar.tokens t
  IsMark marks.End = Unit {0}

  begin_word : IsWord (codes "<begin>")
  begin_word = record { some = omega arith; visible = All-from_recursion IsVisible (codes "<begin>") ((omega arith, omega arith), ((omega arith, omega arith), ((omega arith, omega arith), ((omega arith, omega arith), ((omega arith, omega arith), ((omega arith, omega arith), ((omega arith, omega arith), tt))))))) }

  end_word : IsWord (codes "<end>")
  end_word = record { some = omega arith; visible = All-from_recursion IsVisible (codes "<end>") ((omega arith, omega arith), ((omega arith, omega arith), ((omega arith, omega arith), ((omega arith, omega arith), ((omega arith, omega arith), tt))))) }

  pub mark_is_word : (m : Mark) → IsMark m → IsWord (mark_text file m)
  mark_is_word marks.Begin is = begin_word
  mark_is_word (marks.Token t) is = token_is_word t is
  mark_is_word marks.End is = end_word

  -- ---- which symbol has a name

  tokens_differ : (i j : ℕ) (d : TokenName) → i < j → j < length file.token_names → get_or file.token_names i d ≡ get_or file.token_names j d → ⊥
  tokens_differ i j d less within e =
      let more = map Word file.nonterminal_names in
      let long = length-append file.token_names more in
      named.is.differ i j d less (omega (arith, long, within))
      (get_or_append_left file.token_names more d i (omega (arith, less, within)) ∙ e ∙ sym (get_or_append_left file.token_names more d j within))

  nonterminals_differ : (i j : ℕ) (d : List ℕ) → i < j → j < length file.nonterminal_names → get_or file.nonterminal_names i d ≡ get_or file.nonterminal_names j d → ⊥
  nonterminals_differ i j d less within e =
      let more = map Word file.nonterminal_names in
      let long = length-append file.token_names more in
      let many = length-map file.nonterminal_names Word in
      let start = length file.token_names in
      named.is.differ (start + i) (start + j) (Word d) (omega (arith, less)) (omega (arith, long, many, within))
      (get_or-append-add file.token_names more i (Word d) ∙ get_or-map Word file.nonterminal_names i d (Word d) (omega (arith, less, within))
      ∙ ap Word e ∙ sym (get_or-map Word file.nonterminal_names j d (Word d) within) ∙ sym (get_or-append-add file.token_names more j (Word d)))

  pub token_named : (t : ℕ) → IsNumberOf file.grammar.tokens t → IsTokenNamed file (token_of file t) t
  token_named t is = record {
    is_number = is;
    named = refl;
    first = λ k of less same.
        let e = same_token_text (get_or file.token_names (k - 1) (Byte 0)) (get_or file.token_names (t - 1) (Byte 0)) (token_name_is k of) (token_name_is t is)
        (sym (token_is k of (Byte 0)) ∙ same ∙ token_is t is (Byte 0)) in
        tokens_differ (k - 1) (t - 1) (Byte 0) (omega (arith, less, of.0)) (token_low t is) e;
  }

  pub nonterminal_named : (n : ℕ) → IsNumberOf file.grammar.nonterminals n → IsNonterminalNamed file (nonterminal_of file n) n
  nonterminal_named n is = record {
    is_number = is;
    named = refl;
    first = λ k of less same.
        nonterminals_differ (k - 1) (n - 1) [] (omega (arith, less, of.0)) (nonterminal_low n is) (sym (nonterminal_is k of []) ∙ same ∙ nonterminal_is n is []);
  }

  pub token_no_end : (t : ℕ) → IsNumberOf file.grammar.tokens t → token_of file t ≡ codes "<end>" → ⊥
  token_no_end t is e = not_end (get_or file.token_names (t - 1) (Byte 0)) (token_name_is t is) (sym (token_is t is (Byte 0)) ∙ e)
