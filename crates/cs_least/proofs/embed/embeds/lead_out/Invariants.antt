use Rattle.cs_least.specs.Cost.Rank.{rank}
use Rattle.cs_least.specs.Embed.Ways.{told_at}
use Rattle.cs_least.proofs.OnEmbed.Outwards.{OutTo}
use Rattle.cs_least.proofs.embed.embeds.lead_out.Given as goal

abbrev pub invariant-loop-first : goal.invariant-loop-first
invariant-loop-first l = OutTo l.costs.weights l.costs.grammar l.tables.reaches.items l.fn.nonterminal l.at l.places.items l.after

abbrev pub decreases-loop-first : goal.decreases-loop-first
decreases-loop-first l = rank l.costs.weights.limit (told_at l.tables.reaches.items l.at)
