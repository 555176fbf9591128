use Rattle.cs_grammar.specs.Weights.{Weighed}
use Rattle.cs_least.specs.Embed.Contexts.{AreContextsOf}
use Rattle.cs_least.proofs.embed.contexts.Contexts.make_room.Given as goal

abbrev pub invariant-loop : goal.invariant-loop
invariant-loop l = (v : Weighed) → AreContextsOf v l.fn.self → AreContextsOf v l.self
