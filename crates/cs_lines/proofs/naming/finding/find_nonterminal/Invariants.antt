use Rattle.std.proofs.Common.{ℕ, ◌+◌, ◌<◌, ◌≢◌}
use Rattle.cs_lines.specs.Words.Names.{nonterminal_of}
use Rattle.cs_lines.proofs.naming.finding.find_nonterminal.Given as goal

abbrev pub invariant-loop-place : goal.invariant-loop-place
invariant-loop-place l = (k : ℕ) → k < l.place → nonterminal_of l.file (k + 1) ≢ l.name
