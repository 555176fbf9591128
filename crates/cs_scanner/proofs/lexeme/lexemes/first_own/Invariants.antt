use Rattle.std.proofs.Common.{None}
use Rattle.cs_scanner.specs.Scan.Compared.{scanning}
use Rattle.cs_scanner.specs.Lexeme.Kinds.{IsFirstPlace, own_byte}
use Rattle.cs_scanner.proofs.lexeme.lexemes.first_own.Given as goal

abbrev pub invariant-loop-place : goal.invariant-loop-place
invariant-loop-place l = IsFirstPlace (scanning l.table.scanner) l.table.scanner.automaton.now l.visits l.place own_byte None
