-- The word behind `%` is that of a directive, or an unknown one, or empty and no item.
use Rattle.cs_yacc.proofs.OnItems.Begin.{directive_is, unknown_is, no_directive}
use Rattle.cs_yacc.proofs.items.item.directive_at.Goals as goal

pub returns-then-size-eq0 : goal.returns-then-size-eq0
returns-then-size-eq0 c = no_directive _ _ _ c.requires.percent c.from_offset-behind.ensures c.requires.no_mark c.requires.no_prologue c.run_len-size.ensures.len c.if-size-eq0.true

pub returns-in-Some : goal.returns-in-Some
returns-in-Some c = directive_is _ _ _ c.requires.percent c.from_offset-behind.ensures c.requires.no_mark c.requires.no_prologue c.run_len-size.ensures.len _ c.if-size-eq0.false c.in-Some.ensures

pub returns-in-None : goal.returns-in-None
returns-in-None c = unknown_is _ _ _ c.requires.percent c.from_offset-behind.ensures c.requires.no_mark c.requires.no_prologue c.run_len-size.ensures.len c.if-size-eq0.false c.in-None.ensures
