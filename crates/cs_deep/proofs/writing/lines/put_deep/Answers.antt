-- The numbers of the edit and its base, the edit, its tokens below, and the lines of its text.
use Rattle.std.proofs.Common.{◌∷◌, ◌++◌, List, [], ℕ, codes, ap, ◌∙◌, subst, Option}
use Rattle.std.specs.Prelude.{option_map}
use Rattle.cs_bytes.specs.Names.{space}
use Rattle.cs_texts.specs.declared.rendering.rendered.Rendered.{Rendered}
use Rattle.cs_texts.specs.Rendering.Rendering.{Rendering, rendering}
use Rattle.cs_manifest.proofs.OnWriter.Lent.{copied}
use Rattle.cs_manifest.proofs.OnOutput.Pieces.{spelled, then, then_below}
use Rattle.cs_manifest.specs.Output.Names.{tokens_below, tokens_words}
use Rattle.cs_manifest.specs.Writer.Below.{texts_below}
use Rattle.cs_manifest.specs.Manifest.Lines.{edit_text, text_lines}
use Rattle.cs_manifest.specs.Output.Putting.{Puts}
use Rattle.cs_manifest.specs.Output.Words.{line, numbered_word}
use Rattle.cs_deep.specs.Writing.Deep.{EditEntry, deep_lines}
use Rattle.cs_deep.proofs.writing.lines.put_deep.Goals as goal

pub returns : goal.returns
returns g c =
    let file = c.args.file.now in
    let inside = c.judged.inside in
    let tokens = inside.tokens.items in
    let words = numbered_word (codes "deep ") c.args.number ++ numbered_word (codes " base ") c.args.base ++ space ∷ edit_text file inside.edit in
    let rendered = option_map rendering inside.rendered in
    let put_yield = spelled _ (ap (λ (ts : List ℕ). tokens_below file ts) c.deref.ensures.value) c.put_yield.ensures in
    let same = copied c.as_ref.result ∙ ap (λ (r : Option Rendered). option_map rendering r) c.as_ref.ensures.value in
    let put_texts = spelled _ (ap (λ (r : Option Rendering). texts_below file r) same) c.put_text_lines.ensures in
    let above = then_below [] words (tokens_words file tokens) (then (then c.put_count.ensures c.put_count-2.ensures) c.put_edit.ensures) put_yield in
    let put = then_below (line words) (tokens_words file tokens) (text_lines file rendered) above put_texts in
    subst (λ (t : EditEntry). Puts g.S.Sink (deep_lines file c.args.base c.args.number t) c.args.output.now c.put_text_lines.new.output) c.judged.view_is put
