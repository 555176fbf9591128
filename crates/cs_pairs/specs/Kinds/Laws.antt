-- The facts that the laws state, of a grammar and its weights.
use Rattle.std.specs.Prelude.{◌≤◌, ◌↔◌}
use Rattle.cs_grammar.specs.declared.symbol.Symbol.{Symbol}
use Rattle.cs_grammar.specs.Laws.{AtLeastOne}
use Rattle.cs_grammar.specs.Weights.{Weighed}
use Rattle.cs_grammar.specs.Tree.{Tree, size}
use Rattle.cs_least.specs.Cost.Chosen.{IsChosen}
use Rattle.cs_pairs.specs.declared.kinds.kind.TreeKind.{TreeKind}
use Rattle.cs_pairs.specs.declared.kinds.kind.TreeKind.TheVariants.{Any}
use Rattle.cs_pairs.specs.Kinds.Kinds.{IsTreeOfKind}
use Rattle.cs_pairs.specs.Kinds.ChosenKind.{IsChosenOfKind}

-- the chosen tree of a kind and a symbol
abbrev pub IsChosenIn : Weighed → TreeKind → Symbol → Tree → Type 0
IsChosenIn v k x t = IsChosenOfKind v.weights v.grammar k x t

-- of any yield it is the symbol's chosen tree
abbrev pub AnyIsChosen : Weighed → Symbol → Type 0
AnyIsChosen v x = (t : Tree) → IsChosenIn v Any x t ↔ IsChosen v.weights v.grammar x t

-- some tree is of the kind and the symbol, and some is chosen
abbrev pub HasTreeIn : Weighed → TreeKind → Symbol → Type 0
HasTreeIn v k x = AtLeastOne (IsTreeOfKind v.grammar k x)

abbrev pub HasChosenIn : Weighed → TreeKind → Symbol → Type 0
HasChosenIn v k x = AtLeastOne (IsChosenIn v k x)

-- where there is a tree of the kind and the symbol, one is chosen
abbrev pub ChosenExists : Weighed → TreeKind → Symbol → Type 0
ChosenExists v k x = HasTreeIn v k x → HasChosenIn v k x

-- a tree of the kind and the symbol, and none is smaller
pub record IsLeastIn (v : Weighed) (k : TreeKind) (x : Symbol) (u : Tree) : Type 0 where
  pub is_tree : IsTreeOfKind v.grammar k x u
  pub least : (t : Tree) → IsTreeOfKind v.grammar k x t → size v.weights u ≤ size v.weights t

abbrev pub ChosenIsLeast : Weighed → TreeKind → Symbol → Type 0
ChosenIsLeast v k x = (u : Tree) → IsChosenIn v k x u → IsLeastIn v k x u
