-- The newline above each line is put with that line, so four parts, one behind the other, are the lines.
use Rattle.std.proofs.Common.{◌++◌}
use Rattle.cs_manifest.proofs.OnOutput.Pieces.{then, then_below}
use Rattle.cs_manifest.specs.Output.Names.{tokens_words}
use Rattle.cs_manifest.specs.Writer.Below.{fault_words}
use Rattle.cs_manifest.specs.Manifest.Lines.{base_words, fault_line}
use Rattle.cs_manifest.proofs.writer.put_entry.put_negative.Goals as goal

pub returns : goal.returns
returns g c =
    let file = c.args.file.now in
    let n = c.args.numbered.now in
    let words = base_words n.number n.base in
    let tokens = tokens_words file n.tokens.now in
    let above = then_below words (fault_words file n.negative) tokens (then c.put_base_words.ensures c.put_fault.ensures) c.put_yield.ensures in
    then_below (words ++ fault_line file n.negative) tokens _ above c.put_rendered.ensures
