-- The symbol with a name, since names differ: a token by its word, a nonterminal by its place.
use Rattle.std.proofs.Common.{◌≡◌, ◌≢◌, ℕ, ◌+◌, ◌-◌, ◌<◌, List, [], Option, Some, None, length, map, get_or, sym, ap, ◌∙◌, arith}
use Rattle.std.specs.Prelude.{slice_get, IfSome, IfNone}
use Rattle.std.specs.Option.{option_map_or}
use Rattle.std.proofs.lemmas.Option.{slice_get-get_or, slice_get_within, get_or_from_slice_get, unwrap_or-slice_get, IfSome_then}
use Rattle.std.proofs.lemmas.List.{get_or_append_left, get_or-append-add, get_or-map, length-append, length-map}
use Rattle.cs_bytes.specs.Names.{quote}
use Rattle.cs_grammar.specs.Grammar.{IsNumberOf}
use Rattle.cs_yacc.specs.declared.reading.name.TokenName.{TokenName}
use Rattle.cs_yacc.specs.declared.reading.name.TokenName.TheVariants.{Word, Byte}
use Rattle.cs_yacc.specs.Reading.File.{File, IsFile, IsNamed, NoneNamed}
use Rattle.cs_yacc.specs.Reading.Names.{token_text, token_of}
use Rattle.cs_lines.specs.Words.Names.{IsTokenNamed, IsNonterminalNamed, HasNoToken}

-- a name that doesn't begin with a quote is a word's
word_is : (w : TokenName) (name : List ℕ) → (slice_get name 0 ≡ Some quote → ⊥) → token_text w ≡ name → w ≡ Word name
word_is (Word v) name plain is = ap Word is
word_is (Byte b) name plain is = absurd (plain (ap (λ (l : List ℕ). slice_get l 0) (sym is)))

module _ (file : File) (well : IsFile file) where
  one_token : (i j : ℕ) → i < j → j < length file.token_names → get_or file.token_names i (Word []) ≢ get_or file.token_names j (Word [])
  one_token i j less low same =
      let others = map Word file.nonterminal_names in
      let long = length-append file.token_names others in
      let low_too : i < length file.token_names = omega arith in
      well.differ i j (Word []) less (omega arith)
      (get_or_append_left file.token_names others (Word []) i low_too ∙ same ∙ sym (get_or_append_left file.token_names others (Word []) j low))

  one_nonterminal : (i j : ℕ) → i < j → j < length file.nonterminal_names → get_or file.nonterminal_names i [] ≢ get_or file.nonterminal_names j []
  one_nonterminal i j less low same =
      let tokens = file.token_names in
      let others = map Word file.nonterminal_names in
      let long = length-append tokens others in
      let same_long = length-map file.nonterminal_names Word in
      let low_too : i < length file.nonterminal_names = omega arith in
      well.differ (length tokens + i) (length tokens + j) (Word []) (omega arith) (omega arith)
      (get_or-append-add tokens others i (Word [])
      ∙ get_or-map Word file.nonterminal_names i [] (Word []) low_too
      ∙ ap Word same
      ∙ sym (get_or-map Word file.nonterminal_names j [] (Word []) low)
      ∙ sym (get_or-append-add tokens others j (Word [])))

  -- ---- tokens

  module _ (name : List ℕ) (plain : slice_get name 0 ≡ Some quote → ⊥) where
    named_at : (t : ℕ) → IsNumberOf file.grammar.tokens t → token_of file t ≡ name → get_or file.token_names (t - 1) (Word []) ≡ Word name
    named_at t is named =
        let many = well.tokens in
        let above = is.0 in
        let within = is.1 in
        let low : t - 1 < length file.token_names = omega arith in
        word_is (get_or file.token_names (t - 1) (Word [])) name plain
        (sym (ap (λ (o : Option TokenName). option_map_or token_text o []) (slice_get-get_or file.token_names (t - 1) (Word []) low)) ∙ named)

    token_named : (t : ℕ) → IsNamed file.token_names t (Word name) → IsTokenNamed file name t
    token_named t is =
        let many = well.tokens in
        let above = is.0 in
        let low = slice_get_within file.token_names (t - 1) (Word name) is.1 in
        record {
          is_number = (is.0, omega arith);
          named = ap (λ (o : Option TokenName). option_map_or token_text o []) is.1;
          first = λ k of less same.
              let some = of.0 in
              let less_too : k - 1 < t - 1 = omega arith in
              one_token (k - 1) (t - 1) less_too low
              (named_at k of same ∙ sym (get_or_from_slice_get file.token_names (t - 1) (Word name) (Word []) is.1));
        }

    no_token : NoneNamed file.token_names (Word name) → HasNoToken file name
    no_token none t first =
        let many = well.tokens in
        let above = first.is_number.0 in
        let within = first.is_number.1 in
        let low : t - 1 < length file.token_names = omega arith in
        none (t - 1) (slice_get-get_or file.token_names (t - 1) (Word []) low ∙ ap Some (named_at t first.is_number first.named))

    pub looked_up : (o : Option ℕ) → IfSome o (λ t. IsNamed file.token_names t (Word name)) → IfSome o (IsTokenNamed file name)
    looked_up o h = IfSome_then o h token_named

    pub not_found : (o : Option ℕ) → IfNone o (NoneNamed file.token_names (Word name)) → IfNone o (HasNoToken file name)
    not_found None h = no_token h
    not_found (Some t) h = h

  -- ---- nonterminals

  pub nonterminal_named : (name : List ℕ) (place number : ℕ) → number ≡ place + 1 → place < length file.nonterminal_names → get_or file.nonterminal_names place [] ≡ name → IsNonterminalNamed file name number
  nonterminal_named name place number is low named =
      let many = well.nonterminals in
      let at : number - 1 ≡ place = omega arith in
      record {
        is_number = (omega arith, omega arith);
        named = unwrap_or-slice_get file.nonterminal_names (number - 1) [] ∙ ap (λ (i : ℕ). get_or file.nonterminal_names i []) at ∙ named;
        first = λ k of less same.
            let some = of.0 in
            let less_too : k - 1 < place = omega arith in
            one_nonterminal (k - 1) place less_too low
            (sym (unwrap_or-slice_get file.nonterminal_names (k - 1) []) ∙ same ∙ sym named);
      }
