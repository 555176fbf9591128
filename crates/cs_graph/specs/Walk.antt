-- The walk that makes an order: a path of nodes, each of which waits for the next one.
use Rattle.std.specs.Prelude.{◌≡◌, ◌⊎◌, ℕ, ◌+◌, ◌≤◌, ◌<◌, Bool, true, false, List, [], ◌∷◌, ◌++◌, All, Contains, Some, length, map, sum_by, slice_get, slice_index_or}
use Rattle.std.specs.Global.{Vec}
use Rattle.cs_graph.specs.declared.ordering.Open.{Open}
use Rattle.cs_graph.specs.declared.ordering.Walk.{Walk}
use Rattle.cs_graph.specs.Graph.{Path}
use Rattle.cs_graph.specs.Marks.{IsMarked}
use Rattle.cs_graph.specs.Order.{IsPartial}

abbrev pub nodes : List Open → List ℕ
nodes = map (λ o. o.node)

-- each node of the list is reached from those before it
abbrev pub IsTrail : List (Vec ℕ) → List ℕ → Type 0
IsTrail graph trail = (before after : List ℕ) (node : ℕ) → trail ≡ before ++ node ∷ after → (i : ℕ) → Contains before i → Path graph i node

-- the first so many successors of the node are left to be looked at, and those behind them are marked
pub record IsLookedAt (graph : List (Vec ℕ)) (ready : List Bool) (o : Open) : Type 0 where
  pub successors : Vec ℕ
  pub is : slice_get graph o.node ≡ Some successors
  pub left : o.left ≤ length successors.items
  pub done : (k : ℕ) → o.left ≤ k → k < length successors.items → IsMarked ready (slice_index_or successors.items k 0)

-- The nodes in the order are the ready ones; each other node that was opened is on the path.
pub record IsWalk (graph : List (Vec ℕ)) (ready open_nodes : List Bool) (path : List Open) (order : List ℕ) : Type 0 where
  pub partial : IsPartial graph ready order
  pub size : length open_nodes ≡ length graph
  pub opened : (i : ℕ) → IsMarked open_nodes i → IsMarked ready i ⊎ Contains (nodes path) i
  pub trail : IsTrail graph (nodes path)
  pub looked : All (IsLookedAt graph ready) path

abbrev pub IsWalkOf : List (Vec ℕ) → Walk → Type 0
IsWalkOf graph w = IsWalk graph w.ready.items w.seen.items w.path.items w.order.items

-- the walk with this node at the end of its path
abbrev pub IsWalkWith : List (Vec ℕ) → Walk → Open → Type 0
IsWalkWith graph w last = IsWalk graph w.ready.items w.seen.items (w.path.items ++ last ∷ []) w.order.items

-- how many steps are left at most: to open the nodes that were not opened, and to look at the successors of the others
abbrev pub unopened : List Bool → List (Vec ℕ) → ℕ
unopened [] graph = 0
unopened (b ∷ marks) [] = 0
unopened (true ∷ marks) (v ∷ graph) = unopened marks graph
unopened (false ∷ marks) (v ∷ graph) = unopened marks graph + (length v.items + 2)

abbrev pub work : List (Vec ℕ) → List Bool → List Open → ℕ
work graph marks path = unopened marks graph + sum_by (λ o. o.left + 1) path

-- a step on from the last node of the path
pub record IsStep (graph : List (Vec ℕ)) (old : Walk) (last : Open) (new : Walk) : Type 0 where
  pub walk : IsWalkOf graph new
  pub kept : (i : ℕ) → IsMarked old.seen.items i → IsMarked new.seen.items i
  pub less : work graph new.seen.items new.path.items < work graph old.seen.items (old.path.items ++ last ∷ [])

-- the walk is at its end: nothing is on the path
pub record IsEnd (graph : List (Vec ℕ)) (old new : Walk) : Type 0 where
  pub walk : IsWalkOf graph new
  pub kept : (i : ℕ) → IsMarked old.seen.items i → IsMarked new.seen.items i
  pub none : new.path.items ≡ []
