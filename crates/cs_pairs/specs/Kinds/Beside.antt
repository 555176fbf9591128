-- The rows of a kind and of the kinds beside it, and what a sweep by them knows.
use Rattle.std.specs.Prelude.{ℕ, ◌+◌, ◌<◌, ◌≤◌, Bool, IsTrue, List, ◌∷◌, Option, Some, None}
use Rattle.cs_grammar.specs.declared.symbol.Symbol.{Symbol}
use Rattle.cs_grammar.specs.Weights.{Weighed}
use Rattle.cs_grammar.specs.Tree.{Tree, Forest, size, sizes}
use Rattle.cs_least.specs.declared.cost.cost.Cost.{Cost}
use Rattle.cs_least.specs.Cost.Rank.{rank}
use Rattle.cs_pairs.specs.declared.kinds.kind.TreeKind.{TreeKind}
use Rattle.cs_pairs.specs.declared.kinds.kinds.KindRows.{KindRows}
use Rattle.cs_pairs.specs.declared.kinds.roots.Placed.{Placed}
use Rattle.cs_pairs.specs.declared.kinds.roots.Root.{Root}
use Rattle.cs_pairs.specs.Kinds.Kinds.{IsTreeOfKind, AreTreesOfKind, before, behind}
use Rattle.cs_pairs.specs.Kinds.KindCost.{AreKindCost}
use Rattle.cs_pairs.specs.Kinds.ListCost.{IsAtMost}
use Rattle.cs_pairs.specs.Kinds.Tables.{AreCosts}
use Rattle.cs_pairs.specs.Kinds.Sweep.{node_size}
use Rattle.cs_pairs.specs.Kinds.ChosenKind.{AreChosenOfKind}
use Rattle.cs_pairs.specs.Kinds.Parts.{parts_from, AreChosenParts, IsRootOf}
use Rattle.cs_pairs.specs.Kinds.Clauses.{IsNodeCost, IsPlaceIn}

-- each row says what the least trees of its kind cost
pub record AreRowsBeside (v : Weighed) (rows : KindRows) : Type 0 where
  pub own_costs : AreCosts v.weights v.grammar rows.kind rows.own.now
  pub before_costs : AreCosts v.weights v.grammar (before rows.kind) rows.before.now
  pub behind_costs : AreCosts v.weights v.grammar (behind rows.kind) rows.behind.now

-- with this place of the tree of the kind itself, the chosen trees of symbols are those of their parts, of which the first has an index
abbrev pub IsPlaceFrom : Weighed → TreeKind → ℕ → List Symbol → ℕ → Type 0
IsPlaceFrom v k i xs place = (f : Forest) → AreChosenOfKind v.weights v.grammar k xs f → sizes v.weights f ≤ v.weights.limit → AreChosenParts v.weights v.grammar (parts_from k place i xs) f

-- what is known of the symbols from an index on: what their trees cost, and the place
pub record IsPlacedFrom (v : Weighed) (k : TreeKind) (i : ℕ) (xs : List Symbol) (placed : Placed) : Type 0 where
  pub is_whole : AreKindCost v k xs placed.whole
  pub is_rest : AreKindCost v (behind k) xs placed.rest
  pub within : i ≤ placed.place
  pub is_place : IsPlaceFrom v k i xs placed.place

-- it is known of some symbols
abbrev pub HasPlaced : Weighed → TreeKind → ℕ → Placed → Type 0
HasPlaced v k i placed = (xs : List Symbol) × IsPlacedFrom v k i xs placed

-- and with one more symbol in front this is
abbrev pub IsPlacedOver : Weighed → TreeKind → ℕ → Placed → Symbol → Placed → Type 0
IsPlacedOver v k i placed x new = (xs : List Symbol) → IsPlacedFrom v k (i + 1) xs placed → IsPlacedFrom v k i (x ∷ xs) new

abbrev pub IsPlacedIn : Weighed → TreeKind → List Symbol → Placed → Type 0
IsPlacedIn v k xs placed = IsPlacedFrom v k 0 xs placed

-- each tree of the symbol that is of the kind costs as much or more
abbrev pub IsDear : Weighed → TreeKind → Symbol → Cost → Type 0
IsDear v k x cost = (t : Tree) → IsTreeOfKind v.grammar k x t → rank v.weights.limit cost ≤ size v.weights t

-- where it is so, each tree of either kind does
abbrev pub TellsDear : Weighed → TreeKind → TreeKind → Symbol → Cost → Bool → Type 0
TellsDear v k j x cost answer = IsTrue answer → IsDear v k x cost × IsDear v j x cost

-- each node above trees of these symbols that are of the kind costs more
abbrev pub IsAbove : Weighed → TreeKind → List Symbol → Cost → Type 0
IsAbove v k xs cost = (f : Forest) → AreTreesOfKind v.grammar k xs f → rank v.weights.limit cost < node_size v.weights f

abbrev pub TellsAbove : Weighed → TreeKind → List Symbol → Cost → Bool → Type 0
TellsAbove v k xs cost answer = IsTrue answer → IsAbove v k xs cost

-- a node above such trees costs no more
abbrev pub HasNodeWithin : Weighed → TreeKind → List Symbol → Cost → Type 0
HasNodeWithin v k xs cost = (node : Cost) × IsNodeCost v k xs node × IsAtMost v.weights.limit node cost

-- the place where a node costs no more, and none where each costs more
abbrev pub IsPlaceWithin : Weighed → TreeKind → List Symbol → Cost → Option ℕ → Type 0
IsPlaceWithin v k xs cost None = IsAbove v k xs cost
IsPlaceWithin v k xs cost (Some place) = HasNodeWithin v k xs cost × IsPlaceIn v k xs place

-- the root of the chosen tree of a kind and a nonterminal, with the place in its rule's right side
pub record IsRootIn (v : Weighed) (k : TreeKind) (left : ℕ) (root : Root) : Type 0 where
  pub is_root : IsRootOf v.weights v.grammar k left root.number
  pub is_place : IsPlaceIn v k is_root.rule.right root.place
