use Rattle.std.proofs.Common.{◌≡◌, ◌++◌, reverse, drop}
use Rattle.cs_grammar.proofs.stack.put_on_top.Given as goal

abbrev pub invariant-loop-place : goal.invariant-loop-place
invariant-loop-place l = reverse l.stack.items ≡ drop l.place l.symbols ++ reverse l.initial.stack.items
