use Rattle.cs_scanner.specs.Lexeme.Kinds.{AreAllFound}
use Rattle.cs_scanner.specs.Lexeme.Texts.{texts_of}
use Rattle.cs_scanner.proofs.lexeme.lexemes.put_named.Given as goal

abbrev pub invariant-loop-place : goal.invariant-loop-place
invariant-loop-place l = AreAllFound l.table.scanner l.visits l.place (texts_of l.fn.texts.items) (texts_of l.texts.items)
