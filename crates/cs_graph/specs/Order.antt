-- The making of an order: marks of the nodes that it has.
use Rattle.std.specs.Prelude.{◌≡◌, ℕ, ◌+◌, Bool, List, Contains, length}
use Rattle.std.specs.Global.{Vec}
use Rattle.cs_graph.specs.Graph.{IsOrdered}
use Rattle.cs_graph.specs.Marks.{IsMarked, unmarked}

-- the list is in order, and its nodes are the marked ones
pub record IsPartial (graph : List (Vec ℕ)) (ready : List Bool) (order : List ℕ) : Type 0 where
  pub size : length ready ≡ length graph
  pub ordered : IsOrdered graph order
  pub marked : (node : ℕ) → Contains order node → IsMarked ready node
  pub listed : (node : ℕ) → IsMarked ready node → Contains order node
  pub count : unmarked ready + length order ≡ length graph
