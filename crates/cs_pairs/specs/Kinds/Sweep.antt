-- What a sweep over a right side knows.
use Rattle.std.specs.Prelude.{ℕ, ◌+◌, List}
use Rattle.cs_grammar.specs.declared.symbol.Symbol.{Symbol}
use Rattle.cs_grammar.specs.Grammar.{PlainGrammar}
use Rattle.cs_grammar.specs.Weights.{Measure}
use Rattle.cs_grammar.specs.Tree.{Forest, sizes}
use Rattle.cs_least.specs.Cost.Least.{IsCost}
use Rattle.cs_pairs.specs.declared.kinds.kind.TreeKind.{TreeKind}
use Rattle.cs_pairs.specs.declared.kinds.sweep.Sweep.{Sweep}
use Rattle.cs_pairs.specs.declared.kinds.sweep.Ways.{Ways}
use Rattle.cs_pairs.specs.Kinds.Kinds.{AreTreesOfKind, behind}
use Rattle.cs_pairs.specs.Kinds.Ways.{AreHere, AreLater, joint_size}

-- what the least lists cost in each of the two ways
pub record AreWays (w : Measure) (g : PlainGrammar) (k : TreeKind) (x : Symbol) (xs : List Symbol) (ways : Ways) : Type 0 where
  pub is_here : IsCost w.limit (AreHere g k x xs) (joint_size w) ways.here
  pub is_later : IsCost w.limit (AreLater g k x xs) (joint_size w) ways.later

-- what the least trees of the swept symbols cost that are of the sweep's kind, and the least behind a tree of the kind
pub record IsSwept (w : Measure) (g : PlainGrammar) (xs : List Symbol) (sweep : Sweep) : Type 0 where
  pub is_whole : IsCost w.limit (AreTreesOfKind g sweep.kind xs) (sizes w) sweep.whole
  pub is_rest : IsCost w.limit (AreTreesOfKind g (behind sweep.kind) xs) (sizes w) sweep.rest

-- a node above some trees
abbrev pub node_size : Measure → Forest → ℕ
node_size w f = 1 + sizes w f
