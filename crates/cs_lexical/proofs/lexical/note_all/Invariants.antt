use Rattle.cs_lexical.specs.Least.{lists}
use Rattle.cs_lexical.specs.Noting.{AreNoted}
use Rattle.cs_scanner.specs.Lexeme.Texts.{texts_of}
use Rattle.cs_lexical.proofs.lexical.note_all.Given as goal

abbrev pub invariant-loop-place : goal.invariant-loop-place
invariant-loop-place l = AreNoted l.automaton l.met l.place l.wins (lists l.rows) (texts_of l.texts.items)
