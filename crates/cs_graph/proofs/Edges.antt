-- Edges and paths.
use Rattle.std.proofs.Common.{◌≡◌, ℕ, ◌<◌, List, length, get_or, sym, subst, inl, inr}
use Rattle.std.specs.Prelude.{Contains, Some, slice_get}
use Rattle.std.specs.Global.{Vec}
use Rattle.std.proofs.lemmas.List.Elements.{Contains-get_or}
use Rattle.cs_graph.specs.Graph.{Edge, Path, edge, longer, Leads, IsGraph}

module _ (graph : List (Vec ℕ)) where
  -- a path and an edge behind it
  pub path_then_edge : (from node to : ℕ) → Path graph from node → Edge graph node to → Path graph from to
  path_then_edge from node to (edge a b h) e = longer a b to h (edge b to e)
  path_then_edge from node to (longer a next b h p) e = longer a next to h (path_then_edge next b to p e)

  pub path_append : (from node to : ℕ) → Path graph from node → Path graph node to → Path graph from to
  path_append from node to (edge a b e) q = longer a b to e q
  path_append from node to (longer a next b e p) q = longer a next to e (path_append next b to p q)

  pub leads_append : (from node to : ℕ) → Leads graph from node → Leads graph node to → Leads graph from to
  leads_append from node to (inl same) q = subst (λ n. Leads graph n to) (sym same) q
  leads_append from node to (inr p) (inl same) = inr (subst (Path graph from) same p)
  leads_append from node to (inr p) (inr q) = inr (path_append from node to p q)

  -- at a node's successors the edge is to one of them
  pub edge_to : (node : ℕ) (row : Vec ℕ) (to : ℕ) → slice_get graph node ≡ Some row → Edge graph node to → Contains row.items to
  edge_to node row to is e = let same : row ≡ e.successors = cc (is, e.is) in subst (λ (v : Vec ℕ). Contains v.items to) (sym same) e.has

  -- the successors of a node are nodes
  pub successors_within : IsGraph graph → (node : ℕ) (row : Vec ℕ) → slice_get graph node ≡ Some row → (k d : ℕ) → k < length row.items → get_or row.items k d < length graph
  successors_within g node row is k d lt = g node (get_or row.items k d) (record { successors = row; is = is; has = Contains-get_or row.items k d lt })
