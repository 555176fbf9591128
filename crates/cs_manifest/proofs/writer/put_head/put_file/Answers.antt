-- The lines of the file's tokens, and behind them those of its grammar's rules.
use Rattle.std.proofs.Common.{ap, ◌∙◌}
use Rattle.cs_grammar.specs.Grammar.{PlainGrammar}
use Rattle.cs_manifest.specs.Output.Words.{with_numbers}
use Rattle.cs_manifest.proofs.OnOutput.Pieces.{spelled, then}
use Rattle.cs_manifest.specs.Manifest.Lines.{rule_line, token_line}
use Rattle.cs_manifest.proofs.writer.put_head.put_file.Goals as goal

pub returns : goal.returns
returns g c =
    let names = spelled _ (ap (with_numbers token_line) c.token_names.ensures.names) c.put_tokens.ensures in
    let rules = spelled _ (ap (with_numbers (rule_line c.args.file.now)) (c.rules.ensures.rules ∙ ap (λ (g : PlainGrammar). g.rules) c.grammar.ensures.grammar)) c.put_rules.ensures in
    then names rules
