-- The generated lex file is accepted beside any yacc file.
use Rattle.std.proofs.Common.{◌≡◌, ◌≢◌, ℕ, zero, suc, ◌+◌, ◌-◌, ◌<◌, ◌≤◌, ◌*◌, ◌⊎◌, Bool, true, false, List, [], ◌∷◌, ◌++◌, length, get_or, refl, sym, ap, subst, ◌∙◌, inl, inr, eqb, arith, append_assoc, length-append, Some}
use Rattle.std.specs.Prelude.{codes, decimal, slice_get, slice_index}
use Rattle.std.specs.List.{AllByRecursion, flat_map, list_all}
use Rattle.std.proofs.lemmas.Bool.{false≢true, cases_lt}
use Rattle.std.proofs.lemmas.Bool.Decides.{nat_tests}
use Rattle.std.proofs.lemmas.List.Sums.{sum_by-cons}
use Rattle.std.proofs.lemmas.List.{get_or-append_right}
use Rattle.cs_bytes.specs.Classes.{is_word_byte, is_space, is_newline}
use Rattle.cs_bytes.specs.Places.{front_or_end}
use Rattle.cs_bytes.proofs.Fronts.{and_true}
use Rattle.cs_lex.specs.Layout.Runs.{IsPiece}
use Rattle.cs_pattern_parts.specs.declared.kind.Kind.{Kind}
use Rattle.cs_pattern_parts.specs.declared.kind.Kind.TheVariants.{Token, Foreign, Skip}
use Rattle.cs_pattern_parts.specs.Tree.Pattern.{Regex, leaves}
use Rattle.cs_pattern.specs.Text.Answers.{IsPatternOf}
use Rattle.cs_pattern_parts.specs.Items.ByteKind.{is_plain}
use Rattle.cs_pattern.specs.Operations.Depth.{pattern_of}
use Rattle.cs_yacc.specs.declared.reading.name.TokenName.{TokenName}
use Rattle.cs_yacc.specs.declared.reading.name.TokenName.TheVariants.{Word, Byte}
use Rattle.cs_yacc.specs.Reading.Meaning.{same_spelling}
use Rattle.cs_yacc.specs.Reading.File as tokens
use Rattle.cs_yacc.specs.Reading.File.{IsNamed}
use Rattle.cs_yacc.proofs.OnReading.Gathering.{same_is, same_self}
use Rattle.cs_lex.specs.declared.layout.parts.Rule.{Rule}
use Rattle.cs_lex.specs.declared.layout.unit.UnitKind.TheVariants.{Plain}
use Rattle.cs_lex.specs.Layout.Steps.{here, step}
use Rattle.cs_lex.specs.Layout.Patterns.{unit_kind, UnitOf, IsUnit, IsBracket}
use Rattle.cs_lex.specs.Layout.Layout.{HasDefinitions, HasRules}
use Rattle.cs_lex.specs.Actions.Kinds.{skip, word, bar, IsKind}
use Rattle.cs_lex.specs.Reading.File.{File}
use Rattle.cs_lex.specs.Reading.Kinds.{action_of, HasKind, HaveKinds}
use Rattle.cs_lex.specs.Reading.Patterns.{HavePatterns, positions}
use Rattle.cs_lex.specs.Reading.Reading.{IsLast, IsLexFile}
use Rattle.cs_lex.specs.Reading.Tokens.{GivesName, in_use, not_in_use, IsEntry, AreLiterals}
use Rattle.cs_lex.specs.Reading.Tokens as entries
use Rattle.cs_gen.specs.declared.symbol.Symbol.TheVariants as symbols
use Rattle.cs_gen.specs.Texts.{up_to, name, token_rule, lex_text}
use Rattle.cs_gen.proofs.Digits.{decimal_passes, short_decimal, numbers_below}
use Rattle.cs_gen.proofs.RuleLines.{RuleText, lines_of, IsLine, HaveTexts, covers_bytes, rules_from}
use Rattle.cs_gen.proofs.TokenActions.{is_action_byte, action_piece, semicolon_skips, semicolon_is_no_bar, action, action_bytes, action_kind}
use Rattle.cs_gen.proofs.TokenPatterns.{tree_of, bytes_leaves, bytes_pattern, spacing_text, spacing_tree, spacing_pattern}

-- ---- the texts of the rules

abbrev pub token_text : ℕ → RuleText
token_text number = record { pattern = 116 ∷ decimal number; action = codes "return " ++ (116 ∷ (decimal number ++ 59 ∷ [])) }

abbrev pub spacing_rule : RuleText
spacing_rule = record { pattern = spacing_text; action = 59 ∷ [] }

abbrev pub rule_texts : List ℕ → List RuleText
rule_texts [] = spacing_rule ∷ []
rule_texts (number ∷ numbers) = token_text number ∷ rule_texts numbers

abbrev pub AreFew : List ℕ → Type 0
AreFew = AllByRecursion (λ number. number ≤ 24)

lines_are : (numbers : List ℕ) → flat_map token_rule numbers ++ codes "[ \\n]+ ;\n" ≡ lines_of (rule_texts numbers)
lines_are [] = refl
lines_are (number ∷ numbers) =
    let n = name (symbols.Token number) in
    let rest = flat_map token_rule numbers ++ codes "[ \\n]+ ;\n" in
    append_assoc (token_rule number) (flat_map token_rule numbers) (codes "[ \\n]+ ;\n")
    ∙ append_assoc (n ++ codes " return " ++ n) (codes ";\n") rest ∙ append_assoc (n ++ codes " return ") n (codes ";\n" ++ rest) ∙ append_assoc n (codes " return ") (n ++ (codes ";\n" ++ rest))
    ∙ ap (λ (t : List ℕ). n ++ (codes " return " ++ (n ++ (codes ";\n" ++ t)))) (lines_are numbers)
    ∙ sym (ap (λ (t : List ℕ). n ++ (codes " return " ++ (116 ∷ t))) (append_assoc (decimal number) (59 ∷ []) (10 ∷ lines_of (rule_texts numbers))))

text_is : lex_text ≡ codes "%%\n" ++ lines_of (rule_texts (up_to 24))
unfolding lex_text
text_is =
    append_assoc (codes "%%\n") (flat_map token_rule (up_to 24)) (codes "[ \\n]+ ;\n") ∙ ap (λ (t : List ℕ). codes "%%\n" ++ t) (lines_are (up_to 24))

-- ---- lines

digit_word : (d : ℕ) → d < 10 → is_word_byte (48 + d) ≡ true
digit_word d lt = grind (arith, nat_tests)

decimal_words : (n : ℕ) → n ≤ 24 → list_all is_word_byte (decimal n) ≡ true
decimal_words n le = decimal_passes is_word_byte digit_word n (omega arith)

plain_unit : (b : ℕ) (rest : List ℕ) → is_word_byte b ≡ true → IsUnit (b ∷ rest) 1
plain_unit b rest h =
    let no_escape : eqb b 92 ≡ false = grind (arith, nat_tests) in
    let no_quote : eqb b 34 ≡ false = grind (arith, nat_tests) in
    let no_bracket : eqb b 91 ≡ false = grind (arith, nat_tests) in
    let no_space : is_space b ≡ false = grind (arith, nat_tests) in
    let kind : unit_kind (b ∷ rest) ≡ Plain = rw (no_escape, no_quote, no_bracket, no_space) refl in
    subst (λ k. UnitOf k (b ∷ rest) 1) (sym kind) refl

token_line : (number : ℕ) → number ≤ 24 → IsLine (token_text number)
token_line number le =
    let all : list_all is_word_byte (decimal number) ≡ true = decimal_words number le in
    record {
      begins = λ rest. refl;
      covers = λ rest. covers_bytes IsUnit (λ t. front_or_end is_space t ≡ true) is_word_byte plain_unit (116 ∷ decimal number) (32 ∷ rest) all refl;
      no_blank = λ rest. refl;
      run = λ rest. covers_bytes (IsPiece true) (λ t. front_or_end is_newline t ≡ true) is_action_byte action_piece (action (decimal number) all) (10 ∷ rest) (action_bytes (decimal number) all) refl;
    }

bracket_there : (rest : List ℕ) → IsBracket (spacing_text ++ rest) 5
bracket_there rest = record {
  inside = 3;
  opened = refl;
  closed = record {
    units = step {t = 1} (record { size = 1; unit = record { is = refl; some = omega arith }; ends = refl }) (step {t = 3} (record { size = 2; unit = record { is = refl; some = omega arith }; ends = refl }) here);
    rest = refl;
  };
  ends = refl;
}

spacing_line : IsLine spacing_rule
spacing_line = record {
  begins = λ rest. refl;
  covers = λ rest. record { units = step {t = 5} (record { size = 5; unit = inl (bracket_there (32 ∷ rest)); ends = refl }) (step {t = 6} (record { size = 1; unit = refl; ends = refl }) here); rest = refl };
  no_blank = λ rest. refl;
  run = λ rest. covers_bytes (IsPiece true) (λ t. front_or_end is_newline t ≡ true) is_action_byte action_piece (59 ∷ []) (10 ∷ rest) refl refl;
}

lines_there : (numbers : List ℕ) → AreFew numbers → AllByRecursion IsLine (rule_texts numbers)
lines_there [] h = (spacing_line, tt)
lines_there (number ∷ numbers) h = (token_line number h.0, lines_there numbers h.1)

-- ---- patterns

word_plain : (b : ℕ) → is_word_byte b ≡ true → is_plain b ≡ true
word_plain b h = grind (arith, nat_tests)

words_plain : (bs : List ℕ) → list_all is_word_byte bs ≡ true → list_all is_plain bs ≡ true
words_plain [] h = refl
words_plain (b ∷ bs) h = let both = and_true (is_word_byte b) (list_all is_word_byte bs) h in rw (word_plain b both.0) (words_plain bs both.1)

abbrev pub patterns_of : List ℕ → List Regex
patterns_of [] = pattern_of spacing_tree ∷ []
patterns_of (number ∷ numbers) = pattern_of (tree_of 116 (decimal number)) ∷ patterns_of numbers

have_patterns : (bytes : List ℕ) (numbers : List ℕ) (rs : List Rule) → AreFew numbers → HaveTexts bytes (rule_texts numbers) rs → HavePatterns [] bytes rs (patterns_of numbers)
have_patterns bytes [] [] few h = absurd h
have_patterns bytes [] (r ∷ rs) few h = let none : rs ≡ [] = h.2 in rw none (subst (λ (t : List ℕ). IsPatternOf [] t (pattern_of spacing_tree)) (sym h.0) spacing_pattern, refl)
have_patterns bytes (number ∷ numbers) [] few h = absurd h
have_patterns bytes (number ∷ numbers) (r ∷ rs) few h =
    let all : list_all is_plain (decimal number) ≡ true = words_plain (decimal number) (decimal_words number few.0) in
    let short : length (decimal number) ≤ 100 = omega (arith, short_decimal number 24 few.0 (omega arith)) in
    (subst (λ (t : List ℕ). IsPatternOf [] t (pattern_of (tree_of 116 (decimal number)))) (sym h.0) (bytes_pattern 116 (decimal number) all (λ e. omega arith) short), have_patterns bytes numbers rs few.1 h.2)

few_positions : (numbers : List ℕ) → AreFew numbers → positions (patterns_of numbers) ≤ 2 + 3 * length numbers
few_positions [] h = omega arith
few_positions (number ∷ numbers) h =
    omega (arith, sum_by-cons leaves (pattern_of (tree_of 116 (decimal number))) (patterns_of numbers), bytes_leaves 116 (decimal number), short_decimal number 24 h.0 (omega arith), few_positions numbers h.1)

-- ---- kinds

-- a name stands in a list, or not
found : (names : List TokenName) (w : TokenName) → ((k : ℕ) × (slice_get names k ≡ Some w)) ⊎ ((k : ℕ) → slice_get names k ≢ Some w)
found [] w = inr (λ k e. absurd cc)
found (v ∷ names) w = by_same (same_spelling v w) refl (found names w)
  where
    shifted : ((k : ℕ) × (slice_get names k ≡ Some w)) ⊎ ((k : ℕ) → slice_get names k ≢ Some w) → (v ≡ w → ⊥) → ((k : ℕ) × (slice_get (v ∷ names) k ≡ Some w)) ⊎ ((k : ℕ) → slice_get (v ∷ names) k ≢ Some w)
    shifted (inl (k, e)) ne = inl (suc k, e)
    shifted (inr none) ne = inr (λ k e. at k e)
      where
        at : (k : ℕ) → slice_get (v ∷ names) k ≡ Some w → ⊥
        at zero e = ne cc
        at (suc k) e = none k e

    by_same : (b : Bool) → same_spelling v w ≡ b → ((k : ℕ) × (slice_get names k ≡ Some w)) ⊎ ((k : ℕ) → slice_get names k ≢ Some w) → ((k : ℕ) × (slice_get (v ∷ names) k ≡ Some w)) ⊎ ((k : ℕ) → slice_get (v ∷ names) k ≢ Some w)
    by_same true e rest = inl (0, ap Some (same_is v w e))
    by_same false e rest = shifted rest (λ f. false≢true (sym e ∙ ap (λ u. same_spelling v u) (sym f) ∙ same_self v))

token_at : (yacc : tokens.File) (w : TokenName) (k : ℕ) → slice_get yacc.token_names k ≡ Some w → IsNamed yacc.token_names (suc k) w
token_at yacc w k e = let same : suc k - 1 ≡ k = omega arith in (omega arith, rw same e)

-- what a name gives, whatever is in use
given : (yacc : tokens.File) (w : TokenName) → (kind : Kind) × GivesName yacc w kind
given yacc w =
    elim (found yacc.token_names w) [
      | inl h ↦ (Token (suc h.0), in_use (suc h.0) (token_at yacc w h.0 h.1) refl)
      | inr none ↦ (Foreign, not_in_use none refl)
    ]

-- rules with kinds, in order
record Kinds (yacc : tokens.File) (bytes : List ℕ) (rs : List Rule) : Type 0 where
  pub kinds : List Kind
  pub have : HaveKinds yacc bytes rs kinds

have_kinds : (yacc : tokens.File) (bytes : List ℕ) (numbers : List ℕ) (rs : List Rule) → AreFew numbers → HaveTexts bytes (rule_texts numbers) rs → Kinds yacc bytes rs
have_kinds yacc bytes [] [] few h = absurd h
have_kinds yacc bytes [] (r ∷ rs) few h =
    let none : rs ≡ [] = h.2 in
    let kind : HasKind yacc bytes r [] Skip = record { action = skip; is_kind = subst (λ (t : List ℕ). IsKind t skip) (sym h.1) semicolon_skips; gives = refl } in
    record { kinds = Skip ∷ []; have = rw none (kind, refl) }
have_kinds yacc bytes (number ∷ numbers) [] few h = absurd h
have_kinds yacc bytes (number ∷ numbers) (r ∷ rs) few h =
    let rest = have_kinds yacc bytes numbers rs few.1 h.2 in
    let named = given yacc (Word (116 ∷ decimal number)) in
    let all : list_all is_word_byte (decimal number) ≡ true = decimal_words number few.0 in
    let kind : HasKind yacc bytes r rest.kinds named.0 = record { action = word (116 ∷ decimal number); is_kind = subst (λ (t : List ℕ). IsKind t (word (116 ∷ decimal number))) (sym h.1) (action_kind (decimal number) all); gives = named.1 } in
    record { kinds = named.0 ∷ rest.kinds; have = (kind, rest.have) }

-- the last rule has the action `;`
last_of : (bytes : List ℕ) (numbers : List ℕ) (rs : List Rule) → HaveTexts bytes (rule_texts numbers) rs → (r : Rule) × IsLast rs r × (action_of bytes r ≡ 59 ∷ [])
last_of bytes [] [] h = absurd h
last_of bytes [] (r ∷ rs) h = let none : rs ≡ [] = h.2 in (r, ([], ap (λ (x : List Rule). r ∷ x) none), h.1)
last_of bytes (number ∷ numbers) [] h = absurd h
last_of bytes (number ∷ numbers) (r ∷ rs) h =
    let rest = last_of bytes numbers rs h.2 in
    let last = rest.1 in
    (rest.0, (r ∷ last.0, ap (λ (x : List Rule). r ∷ x) last.1), rest.2)

many_rules : (bytes : List ℕ) (numbers : List ℕ) (rs : List Rule) → HaveTexts bytes (rule_texts numbers) rs → length rs ≡ suc (length numbers)
many_rules bytes [] [] h = absurd h
many_rules bytes [] (r ∷ rs) h = let none : rs ≡ [] = h.2 in rw none refl
many_rules bytes (number ∷ numbers) [] h = absurd h
many_rules bytes (number ∷ numbers) (r ∷ rs) h = omega (arith, many_rules bytes numbers rs h.2)

-- ---- the literals

entry : (yacc : tokens.File) (byte : ℕ) → (n : ℕ) × IsEntry yacc byte n
entry yacc byte =
    elim (found yacc.token_names (Byte byte)) [
      | inl h ↦ (suc h.0, entries.in_use (token_at yacc (Byte byte) h.0 h.1))
      | inr none ↦ (0, entries.not_in_use none refl)
    ]

entries_below : tokens.File → ℕ → List ℕ
entries_below yacc zero = []
entries_below yacc (suc n) = entries_below yacc n ++ (entry yacc n).0 ∷ []

many_entries : (yacc : tokens.File) (n : ℕ) → length (entries_below yacc n) ≡ n
unfolding entries_below
many_entries yacc zero = refl
many_entries yacc (suc n) = length-append (entries_below yacc n) ((entry yacc n).0 ∷ []) ∙ ap (λ (k : ℕ). k + 1) (many_entries yacc n) ∙ (omega arith)

get_left : (xs ys : List ℕ) (i : ℕ) → i < length xs → get_or (xs ++ ys) i 0 ≡ get_or xs i 0
get_left [] ys i lt = absurd (omega arith)
get_left (x ∷ xs) ys zero lt = refl
get_left (x ∷ xs) ys (suc i) lt = get_left xs ys i (omega arith)

each_entry : (yacc : tokens.File) (n byte : ℕ) → byte < n → slice_index (entries_below yacc n) byte ≡ (entry yacc byte).0
unfolding entries_below
each_entry yacc zero byte lt = absurd (omega arith)
each_entry yacc (suc n) byte lt =
    elim (cases_lt byte n) [
      | inl below ↦ get_left (entries_below yacc n) ((entry yacc n).0 ∷ []) byte (omega (arith, many_entries yacc n)) ∙ each_entry yacc n byte below
      | inr above ↦
          let same : byte ≡ n = omega arith in
          let first : byte - n ≡ 0 = omega arith in
          get_or-append_right (entries_below yacc n) ((entry yacc n).0 ∷ []) n byte 0 (many_entries yacc n) (omega arith) ∙ rw (first, same) refl
    ]

literals_there : (yacc : tokens.File) → AreLiterals yacc (entries_below yacc 256)
literals_there yacc = record {
  count = many_entries yacc 256;
  each = λ byte lt. subst (λ (n : ℕ). IsEntry yacc byte n) (sym (each_entry yacc 256 byte lt)) ((entry yacc byte).1);
}

-- ---- the whole file

pub numbers_few : AreFew (up_to 24)
numbers_few = numbers_below 24 24 (omega arith)

module _ (yacc : tokens.File) where
  abbrev bytes : List ℕ
  bytes = codes "%%\n" ++ lines_of (rule_texts (up_to 24))

  file_there : (file : File) × IsLexFile bytes yacc file × (file.patterns ≡ patterns_of (up_to 24))
  file_there =
      let found_rules = rules_from (rule_texts (up_to 24)) (lines_there (up_to 24) numbers_few) bytes 3 [] refl in
      let rs = found_rules.rules in
      let kinds = have_kinds yacc bytes (up_to 24) rs numbers_few found_rules.texts in
      let last = last_of bytes (up_to 24) rs found_rules.texts in
      let definitions : HasDefinitions bytes [] 3 = record { at = 0; lines = here; ends = refl; behind_is = omega arith } in
      let rules : HasRules bytes 3 rs = record { at = found_rules.to; lines = found_rules.walk; ends = found_rules.ends } in
      let file : File = record { patterns = patterns_of (up_to 24); kinds = kinds.kinds; literals = entries_below yacc 256 } in
      let is : IsLexFile bytes yacc file = record {
        definitions = [];
        rules = rs;
        layout = record { from = 3; definitions = definitions; rules = rules };
        are_rules = record { ends = (last.0, last.1, λ h. semicolon_is_no_bar (subst (λ (t : List ℕ). IsKind t bar) last.2 h)); few = omega (arith, many_rules bytes (up_to 24) rs found_rules.texts) };
        accepted = λ i d e. absurd cc;
        patterns = have_patterns bytes (up_to 24) rs numbers_few found_rules.texts;
        few = omega (arith, few_positions (up_to 24) numbers_few);
        kinds = kinds.have;
        literals = literals_there yacc;
      } in
      (file, is, refl)

-- beside any yacc file the lex file means a file of these patterns
pub lex_accepted : (yacc : tokens.File) → (file : File) × IsLexFile lex_text yacc file × (file.patterns ≡ patterns_of (up_to 24))
lex_accepted yacc = subst (λ (t : List ℕ). (file : File) × IsLexFile t yacc file × (file.patterns ≡ patterns_of (up_to 24))) (sym text_is) (file_there yacc)
