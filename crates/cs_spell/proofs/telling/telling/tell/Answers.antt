-- A rule that wins a text is told of by its least one; a rule that wins none is shadowed.
use Rattle.std.proofs.lemmas.Result.{IfOk-weaker}
use Rattle.cs_spell.proofs.OnTelling.Showing.{tells_none, tells_some}
use Rattle.cs_spell.proofs.telling.telling.tell.Goals as goal

pub returns-in-Some : goal.returns-in-Some
returns-in-Some c =
    IfOk-weaker c.tell_kind.result _ _
    (λ told is. tells_some c.args.tools.now c.args.lexical.now c.requires.lexical c.args.rule c.requires.from_1 c.requires.within c.args.kind c.in-Some.spelling.now told c.in-Some.ensures is)
    c.tell_kind.ensures

pub returns-in-None : goal.returns-in-None
returns-in-None c =
    tells_none c.args.tools.now c.args.lexical.now c.requires.lexical c.args.rule c.requires.from_1 c.requires.within c.args.kind c.in-None.ensures
