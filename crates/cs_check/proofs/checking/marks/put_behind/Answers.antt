-- The name of a token is that of a mark.
use Rattle.std.proofs.Common.{refl}
use Rattle.cs_grammar.specs.declared.symbol.Mark.TheVariants as marks
use Rattle.cs_check.proofs.checking.marks.put_behind.Goals as goal

pub returns-in-Some-clause-known : goal.returns-in-Some-clause-known
returns-in-Some-clause-known c = (λ e. (marks.Token c.in-Some.token, c.in-Some.ensures.some), λ h. refl)
