-- Contexts: trees of the start symbol in which one subtree is a hole.
use Rattle.std.specs.Prelude.{◌≡◌, ℕ, ◌+◌, List, [], ◌∷◌, ◌++◌}
use Rattle.cs_grammar.specs.declared.symbol.Symbol.{Symbol}
use Rattle.cs_grammar.specs.declared.symbol.Symbol.TheVariants.{Nonterminal}
use Rattle.cs_grammar.specs.Grammar.{Production, PlainGrammar, IsRule}
use Rattle.cs_grammar.specs.Weights.{Measure}
use Rattle.cs_grammar.specs.Tree.{Tree, Node, Forest, Bare, Grown, AreTrees, sizes, codes_of}

-- Read from the hole to the root: the hole alone, or the hole as a child of a node, between two lists of
-- trees, where that node stands in the hole of another context.
pub data Context : Type 0 where
  Hole : Context
  Under : (outer : Context) → (rule : ℕ) → (left right : Forest) → Context

-- a context of symbol b
abbrev pub IsContext : PlainGrammar → Symbol → Context → Type 0
IsContext g b Hole = b ≡ Nonterminal g.start
IsContext g b (Under outer r left right) =
    (p : Production) × (xs : List Symbol) × (ys : List Symbol) × IsRule g r p × (p.right ≡ xs ++ b ∷ ys)
    × AreTrees g xs left × AreTrees g ys right × IsContext g (Nonterminal p.left) outer

-- the size, the hole not counted
abbrev pub context_size : Measure → Context → ℕ
context_size w Hole = 0
context_size w (Under outer r left right) = context_size w outer + (1 + (sizes w left + sizes w right))

-- the rule numbers in preorder, before the hole and after it
abbrev pub code_before : Context → List ℕ
code_before Hole = []
code_before (Under outer r left right) = code_before outer ++ r ∷ codes_of left

abbrev pub code_after : Context → List ℕ
code_after Hole = []
code_after (Under outer r left right) = codes_of right ++ code_after outer

-- one list of trees after another
abbrev pub join : Forest → Forest → Forest
join Bare f = f
join (Grown t rest) f = Grown t (join rest f)

-- the tree that has this tree in the hole's place
abbrev pub plug : Context → Tree → Tree
plug Hole t = t
plug (Under outer r left right) t = plug outer (Node r (join left (Grown t right)))
