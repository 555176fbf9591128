-- The row of a node has steps of the net alone, and each leads to a node.
use Rattle.std.proofs.Common.{List, refl, sym, subst, arith}
use Rattle.std.specs.Prelude.{All}
use Rattle.std.proofs.lemmas.Option.{slice_get_read}
use Rattle.cs_least.specs.declared.ways.step.Step.{Step}
use Rattle.cs_least.specs.Ways.Ways.{Net, IsNode}
use Rattle.cs_least.proofs.OnWays.RowsPut.{row_nodes}
use Rattle.cs_least.proofs.ways.steps.Steps.leaving.Goals as goal

pub returns-clause-nodes : goal.returns-clause-nodes
returns-clause-nodes c =
    let rows = c.self.inside.rows.items in
    let net : Net = record { nodes = c.self.inside.nodes; steps = c.self.inside.list.items } in
    let node = subst (λ (m : Net). IsNode m.nodes c.args.node) (sym c.self.view_is) c.requires in
    let within = c.self.invariant.kept.many in
    let at = slice_get_read rows _ _ c.index.result.now refl (omega (arith, within, node.0, node.1)) (rw c.place_of.ensures at c.index.ensures) in
    let each = row_nodes net rows c.args.node c.index.result.now c.self.invariant node at in
    subst (λ (m : Net). All (λ (s : Step). IsNode m.nodes s.to) c.deref.result.now) c.self.view_is
    (subst (λ (l : List Step). All (λ (s : Step). IsNode net.nodes s.to) l) (sym c.deref.ensures.value) each)
