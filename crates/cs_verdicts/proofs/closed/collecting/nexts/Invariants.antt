use Rattle.std.specs.List.{AllZip}
use Rattle.cs_grammar.specs.declared.symbol.Mark.TheVariants.{Token}
use Rattle.cs_verdicts.specs.Closed.Closed.{AreNext, numbers}
use Rattle.cs_verdicts.proofs.closed.collecting.nexts.Given as goal

abbrev pub invariant-loop-place : goal.invariant-loop-place
invariant-loop-place l = AllZip (λ t. AreNext l.tables.grammar (Token t)) (numbers l.place) l.sets.items
