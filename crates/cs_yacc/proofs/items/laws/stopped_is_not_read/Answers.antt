-- Both walks halt at one place, where reading can't both end and stop.
use Rattle.cs_yacc.proofs.OnItems.Reading as lemmas
use Rattle.cs_yacc.proofs.items.laws.stopped_is_not_read.Goals as goal

pub returns : goal.returns
returns c = λ bytes at ps s r. lemmas.stopped_not_read bytes s.0 ps at s.1 r
