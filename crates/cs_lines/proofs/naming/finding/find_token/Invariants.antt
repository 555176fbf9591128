use Rattle.std.proofs.Common.{ℕ, ◌+◌, ◌<◌, ◌≢◌}
use Rattle.cs_lines.specs.Words.Names.{token_of}
use Rattle.cs_lines.proofs.naming.finding.find_token.Given as goal

abbrev pub invariant-loop-place : goal.invariant-loop-place
invariant-loop-place l = (k : ℕ) → k < l.place → token_of l.file (k + 1) ≢ l.name
