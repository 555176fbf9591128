-- The names at places of a file's lists.
use Rattle.std.proofs.Common.{◌≡◌, ◌≢◌, ℕ, ◌+◌, ◌-◌, ◌<◌, ◌≤◌, List, [], Some, Option, length, get_or, sym, ap, ◌∙◌, arith, unwrap_or}
use Rattle.std.specs.Prelude.{slice_get}
use Rattle.std.specs.Option.{option_map_or}
use Rattle.std.proofs.lemmas.Option.{slice_get-get_or, slice_get_past}
use Rattle.cs_yacc.specs.declared.reading.name.TokenName.{TokenName}
use Rattle.cs_yacc.specs.Reading.File.{File}
use Rattle.cs_lines.specs.Words.Names.{token_text, token_of, nonterminal_of, IsFirstNamed}

pub token_at : (file : File) (t k : ℕ) (name : TokenName) → k ≡ t - 1 → k < length file.token_names → name ≡ get_or file.token_names k name → token_of file t ≡ token_text name
token_at file t k name place low is =
    ap (λ (i : ℕ). option_map_or token_text (slice_get file.token_names i) []) (sym place)
    ∙ ap (λ (o : Option TokenName). option_map_or token_text o []) (slice_get-get_or file.token_names k name low ∙ ap Some (sym is))

pub nonterminal_at : (file : File) (n k : ℕ) (name : List ℕ) → k ≡ n - 1 → k < length file.nonterminal_names → name ≡ get_or file.nonterminal_names k name → nonterminal_of file n ≡ name
nonterminal_at file n k name place low is =
    ap (λ (i : ℕ). unwrap_or (slice_get file.nonterminal_names i) []) (sym place)
    ∙ ap (λ (o : Option (List ℕ)). unwrap_or o []) (slice_get-get_or file.nonterminal_names k name low ∙ ap Some (sym is))

-- the first with the name is the one at a place in front of which none has it
module _ (many : ℕ) (name_of : ℕ → List ℕ) (name : List ℕ) where
  pub first_named : (place number : ℕ) → number ≡ place + 1 → place < many → ((k : ℕ) → k < place → name_of (k + 1) ≢ name) → name_of number ≡ name → IsFirstNamed many name_of name number
  first_named place number is low before named = record {
    is_number = (omega arith, omega arith);
    named = named;
    first = λ k of less same.
        let some = of.0 in
        let again : k - 1 + 1 ≡ k = omega arith in
        before (k - 1) (omega arith) (ap name_of again ∙ same);
  }

  pub none_named : (place : ℕ) → many ≤ place → ((k : ℕ) → k < place → name_of (k + 1) ≢ name) → (number : ℕ) → IsFirstNamed many name_of name number → ⊥
  none_named place all before number first =
      let some = first.is_number.0 in
      let within = first.is_number.1 in
      let again : number - 1 + 1 ≡ number = omega arith in
      before (number - 1) (omega arith) (ap name_of again ∙ first.named)

pub nonterminal_past : (file : File) (n : ℕ) → length file.nonterminal_names ≤ n - 1 → nonterminal_of file n ≡ []
nonterminal_past file n past =
    ap (λ (o : Option (List ℕ)). unwrap_or o []) (slice_get_past file.nonterminal_names (n - 1) past)
