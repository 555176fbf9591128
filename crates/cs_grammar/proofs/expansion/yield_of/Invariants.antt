use Rattle.std.proofs.Common.{ℕ, take, Option}
use Rattle.cs_grammar.specs.Leftmost.{Derives, from_start}
use Rattle.cs_grammar.specs.Walk.{reached}
use Rattle.cs_grammar.proofs.expansion.yield_of.Given as goal

abbrev pub invariant-loop-number : goal.invariant-loop-number
invariant-loop-number l = (next : Option ℕ) × Derives l.grammar (from_start l.grammar) (take l.number-index l.number-items) (reached l.done l.pending next)
