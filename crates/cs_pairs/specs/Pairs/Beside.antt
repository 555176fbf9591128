-- Contexts whose hole is directly followed by a token, and seams: a tree that ends with a token, in such a context.
use Rattle.std.specs.Prelude.{ℕ, ◌+◌}
use Rattle.cs_grammar.specs.declared.symbol.Symbol.{Symbol}
use Rattle.cs_grammar.specs.Grammar.{PlainGrammar}
use Rattle.cs_grammar.specs.Weights.{Measure}
use Rattle.cs_grammar.specs.Tree.{Tree, size, yields}
use Rattle.cs_grammar.specs.Context.{Context, Hole, Under, IsContext, context_size}
use Rattle.cs_pairs.specs.declared.kinds.kind.TreeKind.TheVariants.{Begins, Ends}
use Rattle.cs_pairs.specs.Kinds.Kinds.{IsOfKind, IsTreeOfKind}

-- what the trees behind the hole yield, below the same node, begins with b
abbrev pub IsBeside : ℕ → Context → Type 0
IsBeside b Hole = ⊥
IsBeside b (Under outer r left right) = IsOfKind (Begins b) (yields right)

-- a context of x whose hole is directly followed by b, below the same node
abbrev pub IsContextBeside : PlainGrammar → ℕ → Symbol → Context → Type 0
IsContextBeside g b x c = IsContext g x c × IsBeside b c

-- a context of x whose hole is directly followed by b, and a tree of x that ends with a
abbrev pub IsSeam : PlainGrammar → ℕ → ℕ → Symbol → Context × Tree → Type 0
IsSeam g a b x s = IsContextBeside g b x s.0 × IsTreeOfKind g (Ends a) x s.1

abbrev pub seam_size : Measure → Context × Tree → ℕ
seam_size w s = context_size w s.0 + size w s.1
