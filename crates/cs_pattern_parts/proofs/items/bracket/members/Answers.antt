-- Member by member the set has what the marks before give, so at the end it has what all give.
use Rattle.std.proofs.Common.{arith}
use Rattle.std.proofs.lemmas.List.{length-map}
use Rattle.cs_pattern_parts.specs.Items.Views.{mark_of}
use Rattle.cs_pattern_parts.proofs.OnItems.Membership.{gathers_none, gathers_member, gathers_all, refuses_member}
use Rattle.cs_pattern_parts.proofs.items.bracket.members.Goals as goal

pub loop-index-init : goal.loop-index-init
loop-index-init c = gathers_none _ _ c.new-set.ensures

pub loop-index-preserved : goal.loop-index-preserved
loop-index-preserved c = gathers_member _ _ _ _ _ c.loop-index.invariant c.in_ok-index.ensures

pub returns-in_err-index : goal.returns-in_err-index
returns-in_err-index c = rw c.from_residual.ensures (refuses_member _ _ _ c.loop-index.invariant c.in_err-index.ensures)

pub returns : goal.returns
returns c = gathers_all _ _ c.loop-index.index (omega (arith, length-map c.args.marks.now mark_of)) c.loop-index.invariant
