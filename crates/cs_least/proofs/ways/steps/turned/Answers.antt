-- Steps that are turned round lead between the same nodes.
use Rattle.std.proofs.Common.{List, sym, ap, ◌∙◌, subst, map}
use Rattle.cs_least.specs.declared.ways.step.Step.{Step}
use Rattle.cs_least.specs.Ways.Ways.{IsNet, net_of}
use Rattle.cs_least.specs.Ways.Turned.{turned_step}
use Rattle.cs_least.proofs.OnWays.Turning.{IsNet-turned}
use Rattle.cs_least.proofs.ways.steps.turned.Goals as goal

pub new-requires : goal.new-requires
new-requires c =
    let net = c.args.steps.now in
    let list = c.in_ok-list.ensures ∙ ap (map turned_step) c.list.ensures.is in
    subst (λ n. IsNet (net_of n c.in_ok-list.list.items)) (sym c.nodes.ensures)
    (subst (λ (l : List Step). IsNet (net_of net.nodes l)) (sym list) (IsNet-turned net c.list.ensures.net))
