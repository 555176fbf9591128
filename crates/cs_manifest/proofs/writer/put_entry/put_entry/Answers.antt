-- The newline above a text is put with the text, so the lines of a goal or a case are the same, cut elsewhere.
use Rattle.std.proofs.Common.{◌++◌, ap, codes, List, ℕ}
use Rattle.cs_manifest.specs.Writer.Below.{text_below, tree_words, verdict_words}
use Rattle.cs_texts.specs.Rendering.Rendering.{rendering}
use Rattle.cs_manifest.proofs.OnOutput.Pieces.{spelled, then, then_below}
use Rattle.cs_manifest.specs.Writer.Entry.{rendering_of}
use Rattle.cs_manifest.specs.Output.Words.{numbered_word}
use Rattle.cs_manifest.specs.Manifest.Lines.{goal_words, text_line, text_lines}
use Rattle.cs_manifest.proofs.OnWriter.Ends.{tree_ends, verdict_ends}
use Rattle.cs_manifest.proofs.writer.put_entry.put_entry.Goals as goal

pub returns-in-Goal : goal.returns-in-Goal
returns-in-Goal g c =
    let file = c.args.file.now in
    let verdict = c.in-Goal.verdict.now in
    let tokens = c.in-Goal.tokens.now in
    let words = goal_words file c.in-Goal.number c.in-Goal.goal.now in
    let texts = text_lines file (rendering_of c.in-Goal.rendered) in
    rw c.in-Goal.is
    (spelled _ (ap (λ (lines : List ℕ). (words ++ lines) ++ texts) (verdict_ends file verdict tokens))
    (then_below words (verdict_words file verdict tokens) texts (then c.put_goal_words.ensures c.put_verdict.ensures) c.put_text_lines.ensures))

pub returns-in-Case : goal.returns-in-Case
returns-in-Case g c =
    let file = c.args.file.now in
    let size = c.in-Case.size in
    let derivation = c.in-Case.derivation.now in
    let tokens = c.in-Case.tokens.now in
    let words = numbered_word (codes "case ") c.in-Case.number in
    let text = text_line file (rendering c.in-Case.rendered.now) in
    let put = spelled _ (ap (text_below file) c.parts.ensures) c.put_rendered.ensures in
    rw c.in-Case.is
    (spelled _ (ap (λ (lines : List ℕ). (words ++ lines) ++ text) (tree_ends file size derivation tokens))
    (then_below words (tree_words file size derivation tokens) text (then c.put_count.ensures c.put_tree.ensures) put))

pub returns-in-Shared : goal.returns-in-Shared
returns-in-Shared g c = rw c.in-Shared.is (then c.put_goal_words-in-Shared.ensures c.put_shared_verdict.ensures)
