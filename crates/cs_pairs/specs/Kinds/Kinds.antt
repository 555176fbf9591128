-- Kinds of trees by what they yield, and how a kind falls on the trees of a list: the sets of empty, first and last symbols of a
-- grammar (Aho, Lam, Sethi and Ullman 2006, "Compilers"), as kinds of trees.
use Rattle.std.specs.Prelude.{◌≡◌, ℕ, List, [], ◌∷◌, ◌++◌}
use Rattle.cs_grammar.specs.declared.symbol.Symbol.{Symbol}
use Rattle.cs_grammar.specs.Grammar.{PlainGrammar, IsNumberOf}
use Rattle.cs_grammar.specs.Tree.{Tree, Forest, IsTree, AreTrees, yield, yields}
use Rattle.cs_pairs.specs.declared.kinds.kind.TreeKind.{TreeKind}
use Rattle.cs_pairs.specs.declared.kinds.kind.TreeKind.TheVariants.{Any, Empty, Begins, Ends}

-- tokens that a tree of the kind may yield
abbrev pub IsOfKind : TreeKind → List ℕ → Type 0
IsOfKind Any tokens = Unit {0}
IsOfKind Empty tokens = tokens ≡ []
IsOfKind (Begins b) tokens = (rest : List ℕ) × (tokens ≡ b ∷ rest)
IsOfKind (Ends a) tokens = (rest : List ℕ) × (tokens ≡ rest ++ a ∷ [])

-- a tree of x that is of the kind
abbrev pub IsTreeOfKind : PlainGrammar → TreeKind → Symbol → Tree → Type 0
IsTreeOfKind g k x t = IsTree g x t × IsOfKind k (yield t)

-- trees of these symbols that are of the kind together
abbrev pub AreTreesOfKind : PlainGrammar → TreeKind → List Symbol → Forest → Type 0
AreTreesOfKind g k xs f = AreTrees g xs f × IsOfKind k (yields f)

-- A list of trees is of a kind in one of two ways. Its first tree is of the kind, and the others together are of this one;
abbrev pub behind : TreeKind → TreeKind
behind Any = Any
behind Empty = Empty
behind (Begins b) = Any
behind (Ends a) = Empty

-- or the first tree is of this one, and the others together are of the kind.
abbrev pub before : TreeKind → TreeKind
before Any = Any
before Empty = Empty
before (Begins b) = Empty
before (Ends a) = Any

-- a kind whose token, if it names one, is one of so many
abbrev pub IsKind : ℕ → TreeKind → Type 0
IsKind tokens Any = Unit {0}
IsKind tokens Empty = Unit {0}
IsKind tokens (Begins b) = IsNumberOf tokens b
IsKind tokens (Ends a) = IsNumberOf tokens a
