-- Context-free grammars as contracts see them: numbers of tokens and nonterminals, a start symbol and a list of rules.
use Rattle.std.specs.Prelude.{◌≡◌, ℕ, ◌-◌, ◌<◌, ◌≤◌, List, Some, length, slice_get, All}
use Rattle.cs_grammar.specs.declared.symbol.Symbol.{Symbol}
use Rattle.cs_grammar.specs.declared.symbol.Symbol.TheVariants.{Token, Nonterminal}

-- a rule: its left side, and the symbols of its right side
pub record Production : Type 0 where
  pub left : ℕ
  pub right : List Symbol

-- a grammar: how many tokens and nonterminals it has, its start symbol and its rules
pub record PlainGrammar : Type 0 where
  pub tokens : ℕ
  pub nonterminals : ℕ
  pub start : ℕ
  pub rules : List Production

-- the grammar of these parts
abbrev pub grammar_of : ℕ → ℕ → ℕ → List Production → PlainGrammar
grammar_of tokens nonterminals start rules = record {
  tokens = tokens;
  nonterminals = nonterminals;
  start = start;
  rules = rules;
}

-- rule r is this one; rules are numbered from 1
pub record IsRule (g : PlainGrammar) (r : ℕ) (p : Production) : Type 0 where
  pub above_zero : 0 < r
  pub at : slice_get g.rules (r - 1) ≡ Some p

-- no rule has the number r
abbrev pub HasNoRule : PlainGrammar → ℕ → Type 0
HasNoRule g r = (p : Production) → IsRule g r p → ⊥

-- one of the grammar's rules
abbrev pub IsSomeRule : PlainGrammar → Production → Type 0
IsSomeRule g p = (r : ℕ) × IsRule g r p

-- a number from 1 to the last
abbrev pub IsNumberOf : ℕ → ℕ → Type 0
IsNumberOf last n = (0 < n) × (n ≤ last)

-- a symbol of a grammar with so many tokens and nonterminals
abbrev pub IsSymbol : ℕ → ℕ → Symbol → Type 0
IsSymbol tokens nonterminals (Token t) = IsNumberOf tokens t
IsSymbol tokens nonterminals (Nonterminal n) = IsNumberOf nonterminals n

-- a symbol of this grammar
abbrev pub IsSymbolOf : PlainGrammar → Symbol → Type 0
IsSymbolOf g x = IsSymbol g.tokens g.nonterminals x

-- a rule of such a grammar
pub record IsRuleOf (tokens nonterminals : ℕ) (p : Production) : Type 0 where
  pub left : IsNumberOf nonterminals p.left
  pub short : length p.right ≤ 128
  pub right : All (IsSymbol tokens nonterminals) p.right

-- a grammar is well formed: it is within the limits, and each number that it names is one of its own
pub record IsGrammar (g : PlainGrammar) : Type 0 where
  pub tokens : g.tokens ≤ 512
  pub nonterminals : g.nonterminals ≤ 1024
  pub few : length g.rules ≤ 8192
  pub start : IsNumberOf g.nonterminals g.start
  pub rules : All (IsRuleOf g.tokens g.nonterminals) g.rules
