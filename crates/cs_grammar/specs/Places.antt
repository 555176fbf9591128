-- The places of the symbols of rules, and their order.
use Rattle.std.specs.Prelude.{◌≡◌, ℕ, ◌<◌, ◌≤◌, ◌⊎◌, List, ◌∷◌, ◌++◌, length}
use Rattle.cs_grammar.specs.declared.symbol.Symbol.{Symbol}
use Rattle.cs_grammar.specs.Grammar.{Production, PlainGrammar, IsRule}

-- rule r at place k comes before rule q at place j
abbrev pub IsEarlier : ℕ → ℕ → ℕ → ℕ → Type 0
IsEarlier r k q j = (r < q) ⊎ ((r ≡ q) × (k < j))

-- rule r at place k comes no later than rule q at place j
abbrev pub IsAtMost : ℕ → ℕ → ℕ → ℕ → Type 0
IsAtMost r k q j = (r < q) ⊎ ((r ≡ q) × (k ≤ j))

-- the symbol at place k of rule r, and those before it and behind it
pub record SymbolAt (g : PlainGrammar) (r k : ℕ) : Type 0 where
  pub production : Production
  pub before : List Symbol
  pub symbol : Symbol
  pub behind : List Symbol
  pub number : IsRule g r production
  pub right : production.right ≡ before ++ symbol ∷ behind
  pub placed : length before ≡ k
