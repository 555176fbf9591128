-- The size, the derivation and the tokens, each line behind the newline above it.
use Rattle.std.proofs.Common.{◌++◌, [], ap, codes, decimal}
use Rattle.cs_manifest.specs.Output.Words.{spaced}
use Rattle.cs_manifest.proofs.OnOutput.Pieces.{spelled, then_below}
use Rattle.cs_manifest.specs.Output.Names.{tokens_words}
use Rattle.cs_manifest.specs.Writer.Below.{derive_below}
use Rattle.cs_manifest.specs.Manifest.Lines.{size_words}
use Rattle.cs_manifest.proofs.writer.put_entry.put_tree.Goals as goal

pub returns : goal.returns
returns g c =
    let size = c.args.size in
    let rules = codes "  derive" ++ spaced decimal c.args.code.now in
    let derivation = spelled _ (ap derive_below c.rules.ensures) c.put_derivation.ensures in
    let above = then_below [] (codes " size " ++ decimal size) rules c.put_count.ensures derivation in
    then_below (size_words size) rules (tokens_words c.args.file.now c.args.tokens.now) above c.put_yield.ensures
