use Rattle.std.proofs.Common.{take}
use Rattle.cs_grammar.specs.Leftmost.{Derives}
use Rattle.cs_grammar.specs.Walk.{in_hand}
use Rattle.cs_chain_text.proofs.rows.around.put_all_in.Given as goal

abbrev pub invariant-loop-number : goal.invariant-loop-number
invariant-loop-number l = Derives l.grammar (in_hand l.fn.done l.fn.pending) (take l.number-index l.rules) (in_hand l.done l.pending)
