use Rattle.cs_scanner.specs.Lexeme.Kinds.{AreEmpty}
use Rattle.cs_scanner.specs.Lexeme.Texts.{texts_of}
use Rattle.cs_scanner.proofs.lexeme.lexemes.no_texts.Given as goal

abbrev pub invariant-loop : goal.invariant-loop
invariant-loop l = AreEmpty l.counter (texts_of l.texts.items)
