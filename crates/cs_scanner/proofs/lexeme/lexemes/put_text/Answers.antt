-- The entry at the token's place alone is new.
use Rattle.std.proofs.Common.{Some, ap, ◌∙◌}
use Rattle.std.specs.Prelude.{slice_set}
use Rattle.std.proofs.lemmas.List.{map-set}
use Rattle.cs_scanner.specs.Lexeme.Texts.{text_of, texts_of}
use Rattle.cs_scanner.proofs.lexeme.lexemes.put_text.Goals as goal

pub returns : goal.returns
returns c =
    let items = c.args.texts.now.items in
    map-set text_of items c.place_of.result (Some c.args.text) ∙ ap (λ k. slice_set (texts_of items) k (Some c.args.text.items)) c.place_of.ensures
