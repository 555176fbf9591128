-- The entry of the token keeps the lesser text, and the other entries stay.
use Rattle.std.proofs.Common.{◌<◌, Option, None, List, ℕ, length, ap, ◌∙◌, sym, subst, arith}
use Rattle.std.specs.Prelude.{slice_index_or, slice_set}
use Rattle.std.proofs.lemmas.List.{map-set, length-map}
use Rattle.cs_scanner.specs.Lexeme.Kinds.{KeepsLeast}
use Rattle.cs_scanner.specs.Lexeme.Texts.{text_of, texts_of}
use Rattle.cs_scanner.proofs.OnLexeme.Winning.{entry_at}
use Rattle.cs_scanner.proofs.lexeme.lexemes.keep_text.Goals as goal

pub returns : goal.returns
returns c =
    let items = c.args.texts.now.items in
    let P : Option (List ℕ) → Type 0 = λ e. KeepsLeast e c.args.text.items (text_of c.keep_least.new.kept) in
    let place = c.place_of.result in
    let within : place < length items = omega (arith, c.place_of.ensures, c.requires.some, c.requires.within, length-map items text_of) in
    let same = ap (λ k. slice_index_or (texts_of items) k None) (sym c.place_of.ensures) ∙ entry_at items place c.index_mut.result.now within c.index_mut.ensures.value in
    (text_of c.keep_least.new.kept, subst P (sym same) c.keep_least.ensures, map-set text_of items place c.keep_least.new.kept ∙ ap (λ k. slice_set (texts_of items) k (text_of c.keep_least.new.kept)) c.place_of.ensures)
