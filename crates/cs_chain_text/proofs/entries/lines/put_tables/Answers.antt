-- The file's tables, and behind them the lexemes, where there are some.
use Rattle.std.proofs.Common.{List, ap}
use Rattle.cs_manifest.proofs.OnOutput.Pieces.{spelled, then}
use Rattle.cs_manifest.specs.Manifest.Lines.{lexeme_lines}
use Rattle.cs_yacc.specs.declared.reading.name.TokenName.{TokenName}
use Rattle.cs_chain_text.proofs.entries.lines.put_tables.Goals as goal

pub returns-in-Some : goal.returns-in-Some
returns-in-Some g c =
    rw c.in-Some.is
    (then c.put_file.ensures (spelled _ (ap (λ (names : List TokenName). lexeme_lines c.in-Some.work.now.lexemes.now names) c.token_names.ensures.names) c.put_lexemes.ensures))
