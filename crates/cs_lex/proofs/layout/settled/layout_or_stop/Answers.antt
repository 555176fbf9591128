-- Behind the end of the definitions the rules end or stop, and the whole does as they do.
use Rattle.cs_lex.proofs.OnLayout.SettledTexts.{both_settled}
use Rattle.cs_lex.proofs.layout.settled.layout_or_stop.Goals as goal

pub returns-in-Some : goal.returns-in-Some
returns-in-Some c = both_settled c.args.bytes.now c.in-Some.from c.in-Some.ensures.end c.walk_rules.ensures
