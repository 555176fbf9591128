-- Two chosen contexts of a symbol are the same context.
use Rattle.cs_least.proofs.OnEmbed.ChosenContexts.{one_chosen_context}
use Rattle.cs_least.proofs.embed.laws.one_chosen_context.Goals as goal

pub returns : goal.returns
returns c = λ w g b d e hd he. one_chosen_context w g d e b hd he
