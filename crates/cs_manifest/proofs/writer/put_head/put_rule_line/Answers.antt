-- The word, the number, the left side's name and the right side's symbols, one behind the other.
use Rattle.std.proofs.Common.{ap}
use Rattle.cs_manifest.specs.Output.Names.{nonterminal_of}
use Rattle.cs_manifest.proofs.OnOutput.Pieces.{spelled, then}
use Rattle.cs_manifest.specs.Manifest.Lines.{symbol_words}
use Rattle.cs_manifest.proofs.writer.put_head.put_rule_line.Goals as goal

pub returns : goal.returns
returns g c =
    let left = spelled _ (ap (nonterminal_of c.args.file.now) c.left.ensures) c.put_nonterminal.ensures in
    let right = spelled _ (ap (symbol_words c.args.file.now) c.right.ensures) c.put_symbols.ensures in
    then (then (then (then (then c.put.ensures c.put_number.ensures) (then c.put-2.ensures left)) c.put-3.ensures) right) c.put-4.ensures
