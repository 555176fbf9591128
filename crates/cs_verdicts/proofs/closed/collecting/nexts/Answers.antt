-- One token more, with the marks that are adjacent behind it.
use Rattle.std.proofs.Common.{◌+◌, List, ℕ}
use Rattle.cs_grammar.specs.declared.symbol.Mark.{Mark}
use Rattle.cs_grammar.specs.declared.symbol.Mark.TheVariants.{Token}
use Rattle.cs_verdicts.specs.Closed.Closed.{AreNext, numbers}
use Rattle.cs_verdicts.proofs.OnClosed.Collected.{next_partner, numbers_more}
use Rattle.cs_verdicts.proofs.closed.collecting.nexts.Goals as goal

pub loop-place-preserved : goal.loop-place-preserved
loop-place-preserved c =
    let n = c.loop-place.place in
    let R = λ (t : ℕ) (marks : List Mark). AreNext c.args.tables.now.grammar (Token t) marks in
    next_partner R (numbers n) c.loop-place.sets.items (n + 1) c.in_ok-next_to.field-0 (numbers (n + 1)) c.push.new.self.items (numbers_more n) c.in_ok-push.ensures.items
    c.loop-place.invariant c.in_ok-next_to.ensures
