use Rattle.std.proofs.Common.{take}
use Rattle.cs_grammar.specs.Leftmost.{Derives, from_start}
use Rattle.cs_grammar.specs.Walk.{reached}
use Rattle.cs_grammar.proofs.walk.walk.Given as goal

abbrev pub invariant-loop-at : goal.invariant-loop-at
invariant-loop-at l = Derives l.grammar (from_start l.grammar) (take l.at l.number-items) (reached l.done l.pending l.next)
