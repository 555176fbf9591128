-- When a kept context is taken those that stay are still chosen ones.
use Rattle.cs_least.proofs.embed.contexts.Contexts.take.Goals as goal

pub returns-in-Some-clause-contexts : goal.returns-in-Some-clause-contexts
returns-in-Some-clause-contexts c = (c.take_kept.ensures.taken c.args.embeds.now c.requires.contexts).1
