-- An order of the graph is one of the definitions, which then have no cycle; where there is none, they have one.
use Rattle.std.proofs.Common.{sym, subst}
use Rattle.cs_pattern.specs.Operations.Definitions.{definitions_of}
use Rattle.cs_pattern.specs.Text.Stages.{IsUseGraph}
use Rattle.cs_pattern.proofs.OnText.Linked.{is_graph, order_of_uses, no_cycle_of_uses, cycle_of_uses}
use Rattle.cs_pattern.proofs.text.uses.order_of.Goals as goal

pub order-requires : goal.order-requires
order-requires c =
    let ds = definitions_of c.args.names.now.entries in
    is_graph ds c.deref.result.now (subst (IsUseGraph ds) (sym c.deref.ensures.value) c.in_ok-graph.ensures)

pub returns-in-Some-clause-order : goal.returns-in-Some-clause-order
returns-in-Some-clause-order c =
    let ds = definitions_of c.args.names.now.entries in
    let o = rw c.in-Some.is at c.in_ok-order.ensures in
    order_of_uses ds c.deref.result.now (subst (IsUseGraph ds) (sym c.deref.ensures.value) c.in_ok-graph.ensures) c.in-Some.order.items o

pub returns-in-Some-clause-no_cycle : goal.returns-in-Some-clause-no_cycle
returns-in-Some-clause-no_cycle c =
    let ds = definitions_of c.args.names.now.entries in
    let o = rw c.in-Some.is at c.in_ok-order.ensures in
    no_cycle_of_uses ds c.deref.result.now (subst (IsUseGraph ds) (sym c.deref.ensures.value) c.in_ok-graph.ensures) c.in-Some.order.items o

pub unreachable-requires : goal.unreachable-requires
unreachable-requires c =
    let ds = definitions_of c.args.names.now.entries in
    let h = rw c.in_default.is at c.in_ok-order.ensures in
    cycle_of_uses ds c.deref.result.now (subst (IsUseGraph ds) (sym c.deref.ensures.value) c.in_ok-graph.ensures) h c.in_ok-check_cycles.ensures.none
