-- A yacc file as contracts see it: a grammar, and the names of its symbols.
use Rattle.std.specs.Prelude.{◌≡◌, ◌≢◌, ℕ, ◌-◌, ◌<◌, List, ◌++◌, length, map, Some, slice_get}
use Rattle.std.specs.List.{AllPairs}
use Rattle.cs_grammar.specs.Grammar.{PlainGrammar, IsGrammar}
use Rattle.cs_yacc.specs.declared.reading.name.TokenName.{TokenName}
use Rattle.cs_yacc.specs.declared.reading.name.TokenName.TheVariants.{Word}

-- Token t has the name at the place t - 1, and so has nonterminal n in its list.
pub record File : Type 0 where
  pub grammar : PlainGrammar
  pub token_names : List TokenName
  pub nonterminal_names : List (List ℕ)

-- the file of these
abbrev pub file_from : PlainGrammar → List TokenName → List (List ℕ) → File
file_from grammar token_names nonterminal_names = record {
  grammar = grammar;
  token_names = token_names;
  nonterminal_names = nonterminal_names;
}

-- the names of the tokens, and behind them those of the nonterminals
abbrev pub all_names : File → List TokenName
all_names f = f.token_names ++ map Word f.nonterminal_names

-- the grammar is well formed, each of its symbols has a name, and all names differ
pub record IsFile (f : File) : Type 0 where
  pub grammar : IsGrammar f.grammar
  pub tokens : length f.token_names ≡ f.grammar.tokens
  pub nonterminals : length f.nonterminal_names ≡ f.grammar.nonterminals
  pub differ : AllPairs (λ a b. a ≢ b) (all_names f)

-- token t has the name
abbrev pub IsNamed : List TokenName → ℕ → TokenName → Type 0
IsNamed names t name = (0 < t) × (slice_get names (t - 1) ≡ Some name)

-- no token has the name
abbrev pub NoneNamed : List TokenName → TokenName → Type 0
NoneNamed names name = (k : ℕ) → slice_get names k ≢ Some name
