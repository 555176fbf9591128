-- What is kept of the least trees of a grammar.
use Rattle.std.specs.Prelude.{ℕ, List, Option}
use Rattle.cs_grammar.specs.Grammar.{PlainGrammar}
use Rattle.cs_grammar.specs.Weights.{Measure}
use Rattle.cs_least.specs.declared.cost.cost.Cost.{Cost}
use Rattle.cs_least.specs.Cost.Trees.{IsCostTable, AreFirstRules}

-- a grammar and weights, what the least tree of each nonterminal costs, and the rule at the root of each chosen one
pub record Kept : Type 0 where
  pub grammar : PlainGrammar
  pub weights : Measure
  pub table : List Cost
  pub firsts : List (Option ℕ)

abbrev pub kept_of : PlainGrammar → Measure → List Cost → List (Option ℕ) → Kept
kept_of g w table firsts = record { grammar = g; weights = w; table = table; firsts = firsts }

-- the tables are those of the grammar by the weights
pub record HasTables (kept : Kept) : Type 0 where
  pub costs : IsCostTable kept.weights kept.grammar kept.table
  pub first_rules : AreFirstRules kept.weights kept.grammar kept.table kept.firsts
