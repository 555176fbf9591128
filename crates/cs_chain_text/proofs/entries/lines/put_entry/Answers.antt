-- The goal's number and its chain, the verdict's words, and the lines of the text below.
use Rattle.std.proofs.Common.{◌++◌, List, ℕ, codes, ap, ◌∙◌, subst, Option}
use Rattle.std.specs.Prelude.{option_map}
use Rattle.cs_texts.specs.declared.rendering.rendered.Rendered.{Rendered}
use Rattle.cs_texts.specs.Rendering.Rendering.{Rendering, rendering}
use Rattle.cs_manifest.proofs.OnWriter.Ends.{verdict_ends}
use Rattle.cs_manifest.proofs.OnWriter.Lent.{copied}
use Rattle.cs_manifest.proofs.OnOutput.Pieces.{spelled, then, then_below}
use Rattle.cs_manifest.specs.Writer.Below.{texts_below, verdict_words}
use Rattle.cs_manifest.specs.Output.Words.{numbered_word}
use Rattle.cs_manifest.specs.Manifest.Lines.{text_lines}
use Rattle.cs_manifest.specs.Output.Putting.{Puts}
use Rattle.cs_chain_text.specs.Entries.Text.{ChainEntry, as_goal, chain_words, entry_lines}
use Rattle.cs_chain_text.proofs.entries.lines.put_entry.Goals as goal

pub returns : goal.returns
returns g c =
    let file = c.args.file.now in
    let inside = c.told.inside in
    let verdict = as_goal inside.verdict in
    let tokens = inside.tokens.items in
    let words = numbered_word (codes "goal ") c.args.number ++ chain_words inside.chain in
    let rendered = option_map rendering inside.rendered in
    let put_verdict = spelled _ (ap (λ (ts : List ℕ). verdict_words file verdict ts) c.deref.ensures.value) c.put_verdict.ensures in
    let same = copied c.as_ref.result ∙ ap (λ (r : Option Rendered). option_map rendering r) c.as_ref.ensures.value in
    let put_texts = spelled _ (ap (λ (r : Option Rendering). texts_below file r) same) c.put_text_lines.ensures in
    let put = spelled _ (ap (λ (lines : List ℕ). (words ++ lines) ++ text_lines file rendered) (verdict_ends file verdict tokens))
    (then_below words (verdict_words file verdict tokens) (text_lines file rendered) (then (then c.put_count.ensures c.put_chain.ensures) put_verdict) put_texts) in
    subst (λ (t : ChainEntry). Puts g.S.Sink (entry_lines file c.args.number t) c.args.output.now c.put_text_lines.new.output) c.told.view_is put
