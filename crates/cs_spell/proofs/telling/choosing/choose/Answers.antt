-- No rule is looked at yet; when all are, the best of them is the choice.
use Rattle.std.proofs.Common.{arith}
use Rattle.cs_spell.proofs.OnTelling.Choosing.{best_all, best_none}
use Rattle.cs_spell.proofs.telling.choosing.choose.Goals as goal

pub loop-place-init : goal.loop-place-init
loop-place-init c = best_none c.args.grammar.now c.args.judged.now c.args.wanted

pub returns : goal.returns
returns c = best_all c.args.grammar.now c.args.judged.now c.args.wanted c.loop-place.place c.loop-place.best (omega arith) (omega arith) c.loop-place.invariant
