-- Each command's writer says what was written by its own text.
use Rattle.std.proofs.Common.{◌≡◌, ◌∙◌, ap}
use Rattle.cs_words.specs.declared.command.Command.TheVariants.{OfGrammar}
use Rattle.cs_words.specs.declared.command.GrammarCommand.TheVariants as of_grammar
use Rattle.cs_run.proofs.OnCommand.Performing.{chains_so, rules_so}
use Rattle.cs_run.proofs.command.command.of_grammar.Goals as goal

pub returns-in-OfGrammar-Rules-clause-writes : goal.returns-in-OfGrammar-Rules-clause-writes
returns-in-OfGrammar-Rules-clause-writes g c =
    let asked : c.in-OfGrammar-Rules.field-0 ≡ of_grammar.Rules = rw c.in-OfGrammar-Rules.is at c.in-OfGrammar-Rules.field-0-is in
    let is : c.args.command ≡ OfGrammar of_grammar.Rules = c.in-OfGrammar-Rules.is ∙ ap OfGrammar asked in
    λ arguments options. rules_so c.rules.result _ c.args.command arguments options c.args.file.now is c.rules.ensures.writes

pub returns-in-OfGrammar-Chains-clause-writes : goal.returns-in-OfGrammar-Chains-clause-writes
returns-in-OfGrammar-Chains-clause-writes g c =
    let asked : c.in-OfGrammar-Chains.field-0 ≡ of_grammar.Chains = rw c.in-OfGrammar-Chains.is at c.in-OfGrammar-Chains.field-0-is in
    let is : c.args.command ≡ OfGrammar of_grammar.Chains = c.in-OfGrammar-Chains.is ∙ ap OfGrammar asked in
    λ arguments options. chains_so c.chains.result _ c.args.command arguments options c.args.file.now is c.chains.ensures.writes
