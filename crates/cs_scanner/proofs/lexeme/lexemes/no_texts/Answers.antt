-- One token more that has no text.
use Rattle.std.proofs.Common.{◌∷◌, [], None}
use Rattle.std.proofs.lemmas.List.{map-append}
use Rattle.cs_scanner.specs.Lexeme.Texts.{texts_of, text_of}
use Rattle.cs_scanner.proofs.OnLexeme.Winning.{none_empty, empty_pushed}
use Rattle.cs_scanner.proofs.lexeme.lexemes.no_texts.Goals as goal

pub loop-init : goal.loop-init
loop-init c = rw c.new-texts.ensures.items none_empty

pub loop-preserved : goal.loop-preserved
loop-preserved c =
    rw (c.in_ok-push.ensures.items, map-append text_of c.loop.texts.items (None ∷ [])) (empty_pushed c.loop.counter (texts_of c.loop.texts.items) c.loop.invariant)
