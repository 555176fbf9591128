-- The two ways in which a list of trees is of a kind.
use Rattle.std.specs.Prelude.{ℕ, ◌+◌, List}
use Rattle.cs_grammar.specs.declared.symbol.Symbol.{Symbol}
use Rattle.cs_grammar.specs.Grammar.{PlainGrammar}
use Rattle.cs_grammar.specs.Weights.{Measure}
use Rattle.cs_grammar.specs.Tree.{Tree, Forest, size, sizes}
use Rattle.cs_pairs.specs.declared.kinds.kind.TreeKind.{TreeKind}
use Rattle.cs_pairs.specs.Kinds.Kinds.{IsTreeOfKind, AreTreesOfKind, before, behind}

-- a tree and others, of x and xs, of which the first is of the kind itself
abbrev pub AreHere : PlainGrammar → TreeKind → Symbol → List Symbol → Tree × Forest → Type 0
AreHere g k x xs p = IsTreeOfKind g k x p.0 × AreTreesOfKind g (behind k) xs p.1

-- and such of which the others are of the kind
abbrev pub AreLater : PlainGrammar → TreeKind → Symbol → List Symbol → Tree × Forest → Type 0
AreLater g k x xs p = IsTreeOfKind g (before k) x p.0 × AreTreesOfKind g k xs p.1

abbrev pub joint_size : Measure → Tree × Forest → ℕ
joint_size w p = size w p.0 + sizes w p.1
