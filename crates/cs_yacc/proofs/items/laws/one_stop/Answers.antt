-- Both readings walk to the same place and stop there behind the same gap.
use Rattle.cs_yacc.proofs.OnItems.Reading as lemmas
use Rattle.cs_yacc.proofs.items.laws.one_stop.Goals as goal

pub returns : goal.returns
returns c = λ bytes a b x y. lemmas.one_stop bytes x.0 y.0 a b x.1 y.1
