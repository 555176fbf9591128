-- The list of a slip: what the changed rule yields in the chosen context of its left side, where each symbol has its chosen tree.
use Rattle.std.specs.Prelude.{◌≡◌, ℕ, ◌+◌, ◌≤◌, List, []}
use Rattle.cs_grammar.specs.Context.{Context, context_size, plug}
use Rattle.cs_grammar.specs.Grammar.{IsRule, PlainGrammar, Production}
use Rattle.cs_grammar.specs.Laws.{AtMostOne}
use Rattle.cs_grammar.specs.Tree.{AreTrees, Forest, Node, sizes, yield}
use Rattle.cs_grammar.specs.Weights.{Measure, Weighed}
use Rattle.cs_grammar.specs.declared.symbol.Symbol.{Symbol}
use Rattle.cs_grammar.specs.declared.symbol.Symbol.TheVariants.{Nonterminal}
use Rattle.cs_least.specs.Cost.Chosen.{AreChosen}
use Rattle.cs_least.specs.Cost.Least.{IsCost}
use Rattle.cs_least.specs.Embed.Around.{IsContextOf}
use Rattle.cs_least.specs.Embed.ChosenContext.{IsChosenContext}
use Rattle.cs_least.specs.declared.cost.cost.Cost.{Cost}
use Rattle.cs_least.specs.declared.cost.cost.Cost.TheVariants.{Never, Large}
use Rattle.cs_wrong.specs.Slips.Slips.{changed}
use Rattle.cs_wrong.specs.declared.slips.slip.Slip.{Slip}
use Rattle.cs_wrong.specs.declared.slips.slip.Slip.TheVariants.{Empty, Of}

-- a context of a left side, and trees of symbols that stand in its hole
abbrev pub ArePlaced : PlainGrammar → ℕ → List Symbol → Context × Forest → Type 0
ArePlaced g left symbols placed = IsContextOf g left placed.0 × AreTrees g symbols placed.1

-- their size with a node above the trees
abbrev pub placed_size : Measure → Context × Forest → ℕ
placed_size w placed = context_size w placed.0 + (1 + sizes w placed.1)

-- what the least of these costs
abbrev pub IsPlacedCost : Weighed → ℕ → List Symbol → Cost → Type 0
IsPlacedCost v left symbols cost = IsCost v.weights.limit (ArePlaced v.grammar left symbols) (placed_size v.weights) cost

-- The chosen context and the chosen trees are within the limit, and the list is what they yield with a node of the rule.
pub record IsPlacedList (v : Weighed) (r left : ℕ) (symbols : List Symbol) (list : List ℕ) : Type 0 where
  pub context : Context
  pub trees : Forest
  pub around : IsChosenContext v.weights v.grammar (Nonterminal left) context
  pub chosen : AreChosen v.weights v.grammar symbols trees
  pub within : placed_size v.weights (context, trees) ≤ v.weights.limit
  pub tokens : list ≡ yield (plug context (Node r trees))

-- no context of the left side, or no tree of some symbol that is left
abbrev pub HasNone : Weighed → Slip → Type 0
HasNone v Empty = ⊥
HasNone v (Of r change) = (p : Production) × IsRule v.grammar r p × IsPlacedCost v p.left (changed change p.right) Never

-- the least of these are together above the limit
abbrev pub HasLarge : Weighed → Slip → Type 0
HasLarge v Empty = ⊥
HasLarge v (Of r change) = (p : Production) × IsRule v.grammar r p × IsPlacedCost v p.left (changed change p.right) Large

-- the list of a slip; that of the empty one has no token
abbrev pub IsListOf : Weighed → Slip → List ℕ → Type 0
IsListOf v Empty list = list ≡ []
IsListOf v (Of r change) list = (p : Production) × IsRule v.grammar r p × IsPlacedList v r p.left (changed change p.right) list

-- ---- laws

abbrev pub HasOneList : Weighed → Slip → Type 0
HasOneList v slip = AtMostOne (IsListOf v slip)
