-- The lines of the tokens and the rules, and behind them those of the lexemes, by the file's own names.
use Rattle.std.proofs.Common.{ap}
use Rattle.cs_manifest.specs.Output.Words.{with_numbers}
use Rattle.cs_manifest.proofs.OnOutput.Pieces.{spelled, then}
use Rattle.cs_manifest.specs.Manifest.Lines.{lexeme_line}
use Rattle.cs_manifest.proofs.writer.put_head.put_tables.Goals as goal

pub returns : goal.returns
returns g c =
    let lexemes = spelled _ (ap (with_numbers (lexeme_line c.args.lexemes.now)) c.token_names.ensures.names) c.put_lexemes.ensures in
    then c.put_file.ensures lexemes
