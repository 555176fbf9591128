use Rattle.cs_scanner.specs.Scan.Compared.{scanning}
use Rattle.cs_scanner.specs.Lexeme.Kinds.{AreMidOwn}
use Rattle.cs_scanner.specs.Lexeme.Texts.{texts_of}
use Rattle.cs_scanner.proofs.lexeme.lexemes.Lexemes.new.Given as goal

abbrev pub invariant-loop-byte : goal.invariant-loop-byte
invariant-loop-byte l = AreMidOwn (scanning l.table.scanner) l.byte l.tokens (texts_of l.texts.items)
