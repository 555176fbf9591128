-- No symbol is swept, so the whole and the rest cost what no trees of their kinds cost.
use Rattle.std.proofs.Common.{ap, ◌∙◌}
use Rattle.cs_pairs.specs.Kinds.Kinds.{behind}
use Rattle.cs_pairs.specs.Kinds.ListCost.{bare_cost}
use Rattle.cs_pairs.proofs.OnKinds.Sweeping.{swept_none}
use Rattle.cs_pairs.proofs.kinds.sweep.Sweep.new.Goals as goal

pub returns-clause-swept : goal.returns-clause-swept
returns-clause-swept c = λ w g. record {
  is_whole = rw c.bare_cost.ensures (swept_none w g c.args.kind);
  is_rest = (let same = c.bare_cost-2.ensures ∙ ap bare_cost c.behind.ensures in rw same (swept_none w g (behind c.args.kind)));
}
