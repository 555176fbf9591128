use Rattle.std.proofs.Common.{◌≡◌, ℕ, ◌<◌, length}
use Rattle.std.specs.Prelude.{slice_index}
use Rattle.cs_lex.specs.Reading.Tokens.{IsEntry}
use Rattle.cs_lex.proofs.reading.literals.literals.Given as goal

abbrev pub invariant-loop-byte : goal.invariant-loop-byte
invariant-loop-byte l = record {
  count : length l.literals.items ≡ l.byte;
  each : (b : ℕ) → b < l.byte → IsEntry l.yacc b (slice_index l.literals.items b);
}
