-- Directed graphs: for each node, from 0, the nodes to which it has an edge.
use Rattle.std.specs.Prelude.{◌≡◌, ◌⊎◌, ◌↔◌, ℕ, ◌<◌, List, ◌∷◌, ◌++◌, Option, Some, MatchOption, Contains, length, slice_get, slice_index, sum, sum_by, ◌≤◌}
use Rattle.std.specs.Global.{Vec}

pub record Edge (graph : List (Vec ℕ)) (from to : ℕ) : Type 0 where
  pub successors : Vec ℕ
  pub is : slice_get graph from ≡ Some successors
  pub has : Contains successors.items to

-- each edge goes to a node
abbrev pub IsGraph : List (Vec ℕ) → Type 0
IsGraph graph = (from to : ℕ) → Edge graph from to → to < length graph

-- a path of one edge or more
pub data Path (graph : List (Vec ℕ)) : ℕ → ℕ → Type 0 where
  edge : (from to : ℕ) → Edge graph from to → Path graph from to
  longer : (from next to : ℕ) → Edge graph from next → Path graph next to → Path graph from to

-- the one node is the other, or a path goes from it to the other
abbrev pub Leads : List (Vec ℕ) → ℕ → ℕ → Type 0
Leads graph from to = (from ≡ to) ⊎ Path graph from to

-- some node reaches itself
abbrev pub HasCycle : List (Vec ℕ) → Type 0
HasCycle graph = (node : ℕ) × Path graph node node

-- The list holds nodes of the graph, each once, and each behind its successors.
pub record IsOrdered (graph : List (Vec ℕ)) (order : List ℕ) : Type 0 where
  pub within : (node : ℕ) → Contains order node → node < length graph
  pub behind : (before after : List ℕ) (node to : ℕ) → order ≡ before ++ node ∷ after → Edge graph node to → Contains before to
  pub once : (before after : List ℕ) (node : ℕ) → order ≡ before ++ node ∷ after → Contains before node → ⊥

-- The list holds all nodes of the graph, each once, and each behind its successors: a topological order.
pub record IsOrder (graph : List (Vec ℕ)) (order : List ℕ) : Type 0 where
  pub all : (node : ℕ) → node < length graph → Contains order node
  pub ordered : IsOrdered graph order

-- an order, or none where a node reaches itself
abbrev pub IsOrderOrCycle : List (Vec ℕ) → Option (Vec ℕ) → Type 0
IsOrderOrCycle graph found = MatchOption found (HasCycle graph) (λ order. IsOrder graph order.items)

-- the nodes of an order weigh together at most what all nodes weigh, whatever the weights: no node is counted twice
abbrev pub IsWeighedOnce : List (Vec ℕ) → List ℕ → Type 0
IsWeighedOnce graph order = (weights : List ℕ) → length weights ≡ length graph → sum_by (λ node. slice_index weights node) order ≤ sum weights

-- the nodes of each order of the graph weigh so
abbrev pub AreWeighedOnce : List (Vec ℕ) → Type 0
AreWeighedOnce graph = (order : List ℕ) → IsOrdered graph order → IsWeighedOnce graph order

-- Each node has a number, two nodes the same one exactly where each leads to the other: the strongly connected components.
pub record AreComponents (graph : List (Vec ℕ)) (components : List ℕ) : Type 0 where
  pub size : length components ≡ length graph
  pub same : (one other : ℕ) → one < length graph → other < length graph → (slice_index components one ≡ slice_index components other) ↔ (Leads graph one other × Leads graph other one)
