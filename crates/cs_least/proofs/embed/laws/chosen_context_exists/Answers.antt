-- A nonterminal with a context has a chosen one, and a chosen context is a context of least size.
use Rattle.cs_least.proofs.OnEmbed.ChosenContexts.{chosen_context_exists, chosen_context_least, IsContext-chosen}
use Rattle.cs_least.proofs.embed.laws.chosen_context_exists.Goals as goal

pub returns-clause-exists : goal.returns-clause-exists
returns-clause-exists c w g n some = let d = chosen_context_exists w g n some.0 some.1 in (d.context, d.chosen)

pub returns-clause-least : goal.returns-clause-least
returns-clause-least c w g b d chosen = record {
  is_context = IsContext-chosen w g d b chosen;
  least = λ e is_context. chosen_context_least w g b e d is_context chosen;
}
