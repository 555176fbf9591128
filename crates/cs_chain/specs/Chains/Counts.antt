-- How chains are counted. Working words of proofs.
use Rattle.std.specs.Prelude.{◌≡◌, ℕ, ◌-◌, ◌≤◌, ◌==◌, if◌then◌else◌, List, length, take, slice_index}
use Rattle.std.specs.List.{sum_by}
use Rattle.cs_grammar.specs.declared.symbol.Symbol.{Symbol}
use Rattle.cs_grammar.specs.declared.symbol.Symbol.TheVariants.{Token, Nonterminal}
use Rattle.cs_grammar.specs.Grammar.{Production, PlainGrammar, IsNumberOf}

-- the number of a symbol, by those of the nonterminals
abbrev pub of_symbol : (ℕ → ℕ) → Symbol → ℕ
of_symbol f (Token t) = 0
of_symbol f (Nonterminal n) = f n

-- the numbers of a right side's symbols, together
abbrev pub weight : (ℕ → ℕ) → List Symbol → ℕ
weight f xs = sum_by (of_symbol f) xs

-- the number of a rule, where this is its left side
abbrev pub of_rule : (Production → ℕ) → ℕ → Production → ℕ
of_rule f n p = if p.left == n then f p else 0

-- the numbers of the rules of a left side, together
abbrev pub of_left : (Production → ℕ) → List Production → ℕ → ℕ
of_left f rules n = sum_by (of_rule f n) rules

-- how many rules have this left side
abbrev pub rules_with : PlainGrammar → ℕ → ℕ
rules_with g n = of_left (λ (p : Production). 1) g.rules n

-- how many context goals a rule has
abbrev pub links_of : PlainGrammar → Production → ℕ
links_of g p = weight (rules_with g) p.right

-- how many the rules of this left side have
abbrev pub links_with : PlainGrammar → ℕ → ℕ
links_with g n = of_left (links_of g) g.rules n

-- how many chains begin with a rule
abbrev pub chains_with : PlainGrammar → Production → ℕ
chains_with g p = weight (links_with g) p.right

-- the numbers of the nonterminals, as a table has them
abbrev pub in_table : List ℕ → ℕ → ℕ
in_table table n = slice_index table (n - 1)

-- each number of the table is at most this one
abbrev pub AreAtMost : ℕ → List ℕ → Type 0
AreAtMost most table = (n : ℕ) → in_table table n ≤ most

-- a table of the nonterminals' numbers
pub record IsTable (g : PlainGrammar) (f : ℕ → ℕ) (table : List ℕ) : Type 0 where
  pub long : length table ≡ g.nonterminals
  pub each : (n : ℕ) → IsNumberOf g.nonterminals n → in_table table n ≡ f n

-- the same of the first rules alone
abbrev pub IsCounted : PlainGrammar → (Production → ℕ) → ℕ → List ℕ → Type 0
IsCounted g f i table = IsTable g (of_left f (take i g.rules)) table
