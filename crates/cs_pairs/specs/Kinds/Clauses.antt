-- What the contracts of parts say, of a grammar and its weights. They are the other modules' facts, with what the parts hold.
use Rattle.std.specs.Prelude.{◌≡◌, ℕ, ◌≤◌, List, ◌∷◌, ◌++◌, reverse, All}
use Rattle.std.specs.Global.{Vec}
use Rattle.cs_grammar.specs.declared.symbol.Symbol.{Symbol}
use Rattle.cs_grammar.specs.declared.symbol.Symbol.TheVariants.{Nonterminal}
use Rattle.cs_grammar.specs.Weights.{Weighed}
use Rattle.cs_grammar.specs.Tree.{Forest, sizes, codes_of}
use Rattle.cs_least.specs.declared.cost.cost.Cost.{Cost}
use Rattle.cs_least.specs.Cost.Least.{IsCost}
use Rattle.cs_pairs.specs.declared.kinds.kind.TreeKind.{TreeKind}
use Rattle.cs_pairs.specs.declared.kinds.sweep.Sweep.{Sweep}
use Rattle.cs_pairs.specs.declared.kinds.sweep.Ways.{Ways}
use Rattle.cs_pairs.specs.declared.kinds.writing.Part.{Part}
use Rattle.cs_pairs.specs.Kinds.Kinds.{AreTreesOfKind}
use Rattle.cs_pairs.specs.Kinds.Sweep.{IsSwept, AreWays, node_size}
use Rattle.cs_pairs.specs.Kinds.ChosenKind.{AreChosenOfKind, AppendsOfKind}
use Rattle.cs_pairs.specs.Kinds.Parts.{parts_from, inner, AreChosenParts, HasSmallOfKind, IsPartOf, TakesOn}

-- some symbols are swept
abbrev pub HasSwept : Weighed → Sweep → Type 0
HasSwept v s = (xs : List Symbol) × IsSwept v.weights v.grammar xs s

-- the sweep of any symbols goes on by this one
abbrev pub AreWaysOver : Weighed → Sweep → Symbol → Ways → Type 0
AreWaysOver v s x ways = (xs : List Symbol) → IsSwept v.weights v.grammar xs s → AreWays v.weights v.grammar s.kind x xs ways

abbrev pub IsSweptOver : Weighed → Sweep → Symbol → Sweep → Type 0
IsSweptOver v s x new = (xs : List Symbol) → IsSwept v.weights v.grammar xs s → IsSwept v.weights v.grammar (x ∷ xs) new

-- what a node costs with children that are of a kind together
abbrev pub IsNodeCost : Weighed → TreeKind → List Symbol → Cost → Type 0
IsNodeCost v k xs cost = IsCost v.weights.limit (AreTreesOfKind v.grammar k xs) (node_size v.weights) cost

-- the parts of the nonterminals among these symbols stand in front of what was pending, which stands in reverse
abbrev pub ArePutFirst : TreeKind → ℕ → List Symbol → Vec Part → Vec Part → Type 0
ArePutFirst k i xs old new = reverse new.items ≡ inner (parts_from k i 0 xs) ++ reverse old.items

-- with this place of the tree of the kind itself, the chosen trees of the symbols are those of their parts
abbrev pub IsPlaceIn : Weighed → TreeKind → List Symbol → ℕ → Type 0
IsPlaceIn v k xs i = (f : Forest) → AreChosenOfKind v.weights v.grammar k xs f → sizes v.weights f ≤ v.weights.limit → AreChosenParts v.weights v.grammar (parts_from k i 0 xs) f

-- some tree of the symbol that is of the kind is within the limit
abbrev pub HasSmallIn : Weighed → TreeKind → Symbol → Type 0
HasSmallIn v k x = HasSmallOfKind v.weights v.grammar k x

-- a part is taken on, where the parts stand in reverse
abbrev pub TakesOnIn : Weighed → Part → Vec Part → Vec Part → List ℕ → List ℕ → Type 0
TakesOnIn v part pending new_pending old new = TakesOn v.weights v.grammar part pending.items new_pending.items old new

abbrev pub OpensUp : Weighed → TreeKind → ℕ → Vec Part → Vec Part → List ℕ → List ℕ → Type 0
OpensUp v k left pending new_pending old new = TakesOnIn v (record { kind = k; symbol = Nonterminal left }) pending new_pending old new

-- the chosen trees of what is pending are within the limit together, and their codes are appended
abbrev pub HaveSmallParts : Weighed → Vec Part → Type 0
HaveSmallParts v pending = (f : Forest) × AreChosenParts v.weights v.grammar (reverse pending.items) f × (sizes v.weights f ≤ v.weights.limit)

-- the pending parts are of the grammar, and within the limit together
abbrev pub ArePending : Weighed → Vec Part → Type 0
ArePending v pending = All (IsPartOf v.grammar) (reverse pending.items) × HaveSmallParts v pending

abbrev pub Writes : Weighed → Vec Part → List ℕ → List ℕ → Type 0
Writes v pending old new = (f : Forest) → AreChosenParts v.weights v.grammar (reverse pending.items) f → sizes v.weights f ≤ v.weights.limit → new ≡ old ++ codes_of f

abbrev pub AppendsIn : Weighed → TreeKind → List Symbol → List ℕ → List ℕ → Type 0
AppendsIn v k xs old new = AppendsOfKind v.weights v.grammar k xs old new
