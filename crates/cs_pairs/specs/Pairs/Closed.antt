-- What the nonterminals yield: which of them can yield no tokens, and which tokens stand first and last in their yields. These are the
-- sets of empty, first and last symbols of a grammar (Aho, Lam, Sethi and Ullman 2006, "Compilers"), over all trees of a nonterminal,
-- whatever their size, and whether a sentence uses it or not.
use Rattle.std.specs.Prelude.{◌≡◌, ℕ, List, [], ◌∷◌, ◌++◌}
use Rattle.cs_grammar.specs.declared.symbol.Symbol.TheVariants.{Nonterminal}
use Rattle.cs_grammar.specs.Grammar.{PlainGrammar}
use Rattle.cs_grammar.specs.Tree.{Tree, IsTree, yield}

-- some tree of the nonterminal yields these tokens
abbrev pub Yields : PlainGrammar → ℕ → List ℕ → Type 0
Yields g n tokens = (t : Tree) × IsTree g (Nonterminal n) t × (tokens ≡ yield t)

-- some tree of it yields no token
abbrev pub YieldsNothing : PlainGrammar → ℕ → Type 0
YieldsNothing g n = Yields g n []

-- some tree of it yields tokens of which b is the first
abbrev pub IsFirstOf : PlainGrammar → ℕ → ℕ → Type 0
IsFirstOf g n b = (rest : List ℕ) × Yields g n (b ∷ rest)

-- some tree of it yields tokens of which a is the last
abbrev pub IsLastOf : PlainGrammar → ℕ → ℕ → Type 0
IsLastOf g n a = (rest : List ℕ) × Yields g n (rest ++ a ∷ [])
