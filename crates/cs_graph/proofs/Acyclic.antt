-- Where there is an order no node reaches itself.
use Rattle.std.proofs.Common.{◌≡◌, ℕ, zero, suc, ◌<◌, List, [], ◌∷◌, ◌++◌, length, sym, ap, ◌∙◌, subst, append_assoc, arith}
use Rattle.std.specs.Prelude.{Contains}
use Rattle.std.specs.Global.{Vec}
use Rattle.std.proofs.lemmas.List.Elements.{Contains-append_left}
use Rattle.std.proofs.lemmas.Option.{slice_get_within}
use Rattle.cs_graph.specs.Graph.{Path, edge, longer, IsOrdered, IsOrder}
use Rattle.cs_graph.proofs.Single.{contains_none}

-- what a list contains stands somewhere in it
pub split_at : (xs : List ℕ) (x : ℕ) → Contains xs x → (before : List ℕ) × (after : List ℕ) × (xs ≡ before ++ x ∷ after)
split_at [] x h = absurd (contains_none x h)
split_at (y ∷ xs) x (zero, lt, e) = ([], xs, ap (λ z. z ∷ xs) e)
split_at (y ∷ xs) x (suc k, lt, e) = let h = split_at xs x (k, omega arith, e) in (y ∷ h.0, h.1, ap (λ (zs : List ℕ). y ∷ zs) h.2)

module _ (graph : List (Vec ℕ)) (order : List ℕ) (o : IsOrdered graph order) where
  -- what a node reaches stands before it
  pub reached_before : (before after : List ℕ) (node to : ℕ) → order ≡ before ++ node ∷ after → Path graph node to → Contains before to
  reached_before before after node to is (edge a b e) = o.behind before after a b is e
  reached_before before after node to is (longer a next b e p) =
      let s = split_at before next (o.behind before after a next is e) in
      let there : order ≡ s.0 ++ next ∷ (s.1 ++ a ∷ after) = is ∙ ap (λ (xs : List ℕ). xs ++ a ∷ after) s.2 ∙ append_assoc s.0 (next ∷ s.1) (a ∷ after) in
      subst (λ (xs : List ℕ). Contains xs b) (sym s.2) (Contains-append_left s.0 (next ∷ s.1) b (reached_before s.0 (s.1 ++ a ∷ after) next b there p))

from_node : (graph : List (Vec ℕ)) (node to : ℕ) → Path graph node to → node < length graph
from_node graph node to (edge a b e) = slice_get_within graph a e.successors e.is
from_node graph node to (longer a next b e p) = slice_get_within graph a e.successors e.is

pub no_cycle : (graph : List (Vec ℕ)) (order : List ℕ) (node : ℕ) → IsOrder graph order → Path graph node node → ⊥
no_cycle graph order node o p =
    let s = split_at order node (o.all node (from_node graph node node p)) in
    o.ordered.once s.0 s.1 node s.2 (reached_before graph order o.ordered s.0 s.1 node node s.2 p)
