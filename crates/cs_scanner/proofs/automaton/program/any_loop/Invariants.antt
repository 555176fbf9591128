-- No step so far begins a many.
use Rattle.std.proofs.Common.{◌≡◌, drop}
use Rattle.cs_scanner.specs.Automaton.Flat.{has_loop}
use Rattle.cs_scanner.proofs.automaton.program.any_loop.Given as goal

abbrev pub invariant-loop-i : goal.invariant-loop-i
invariant-loop-i l = has_loop (drop l.i l.ops) ≡ has_loop l.ops
