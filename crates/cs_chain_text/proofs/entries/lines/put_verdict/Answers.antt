-- A feasible chain's size comes first, below it the derivation, and below that the tokens.
use Rattle.std.proofs.Common.{◌++◌, [], ap, codes, decimal}
use Rattle.cs_manifest.specs.Output.Words.{spaced}
use Rattle.cs_manifest.proofs.OnOutput.Pieces.{spelled, then_below}
use Rattle.cs_manifest.specs.Output.Names.{tokens_words}
use Rattle.cs_manifest.specs.Writer.Below.{derive_below}
use Rattle.cs_manifest.specs.Manifest.Lines.{size_words}
use Rattle.cs_chain_text.proofs.entries.lines.put_verdict.Goals as goal

pub returns-in-Feasible : goal.returns-in-Feasible
returns-in-Feasible g c =
    let size = c.in-Feasible.size in
    let rules = codes "  derive" ++ spaced decimal c.in-Feasible.derivation in
    let derivation = spelled _ (ap derive_below c.rules.ensures) c.put_derivation.ensures in
    let above = then_below [] (codes " size " ++ decimal size) rules c.put_count.ensures derivation in
    rw c.in-Feasible.is (then_below (size_words size) rules (tokens_words c.args.file.now c.args.tokens.now) above c.put_yield.ensures)
