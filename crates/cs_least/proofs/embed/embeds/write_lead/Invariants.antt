use Rattle.std.specs.Prelude.{length}
use Rattle.cs_least.proofs.OnEmbed.Outwards.{LeadsThrough}
use Rattle.cs_least.proofs.embed.embeds.write_lead.Given as goal

abbrev pub invariant-loop-place : goal.invariant-loop-place
invariant-loop-place l = LeadsThrough l.costs.weights l.costs.grammar l.initial.places.items l.initial.into l.places.items l.into

abbrev pub decreases-loop-place : goal.decreases-loop-place
decreases-loop-place l = length l.places.items
