-- Which chains a grammar has: context-dependent rule coverage (Lämmel 2001, "Grammar Testing"), one step deeper.
use Rattle.std.specs.Prelude.{◌≡◌, ℕ}
use Rattle.cs_grammar.specs.Grammar.{PlainGrammar}
use Rattle.cs_goals.specs.Goal.{IsOccurrence}
use Rattle.cs_chain.specs.declared.chains.chain.Chain.{Chain}

-- the middle rule may be applied at the place of the outer one, and the inner rule at the spot of the middle one
abbrev pub IsChain : PlainGrammar → Chain → Type 0
IsChain g c = IsOccurrence g c.outer c.place c.middle × IsOccurrence g c.middle c.spot c.inner

-- the chain that differs in the inner rule alone
abbrev pub with_inner : Chain → ℕ → Chain
with_inner c r = record c { inner = r }

-- the other differs from this one in the inner rule alone, if at all
abbrev pub IsBeside : Chain → Chain → Type 0
IsBeside c other = other ≡ with_inner c other.inner
