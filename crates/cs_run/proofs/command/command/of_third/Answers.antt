-- Each command's writer says what was written by its own text.
use Rattle.std.proofs.Common.{sym, subst}
use Rattle.cs_io.specs.Uses.{used}
use Rattle.cs_words.specs.declared.command.Command.{Command}
use Rattle.cs_run.specs.Command.Carrying.{WritesByText}
use Rattle.cs_run.proofs.command.command.of_third.Goals as goal

pub returns-in-Member-clause-writes : goal.returns-in-Member-clause-writes
returns-in-Member-clause-writes g c =
    subst (λ (d : Command). WritesByText d c.args.beside.now c.of_text.result (used g.O.Sink c.args.out.now c.of_text.new.out)) (sym c.in-Member.is) c.of_text.ensures.writes

pub returns-in-Check-clause-writes : goal.returns-in-Check-clause-writes
returns-in-Check-clause-writes g c =
    subst (λ (d : Command). WritesByText d c.args.beside.now c.checked.result (used g.O.Sink c.args.out.now c.checked.new.out)) (sym c.in-Check.is) c.checked.ensures.writes
