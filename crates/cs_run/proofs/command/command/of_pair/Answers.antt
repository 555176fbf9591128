-- Each command's writer says what was written by its own text.
use Rattle.std.proofs.Common.{◌≡◌, ◌∙◌, ap, sym, subst}
use Rattle.cs_io.specs.Uses.{used}
use Rattle.cs_words.specs.declared.command.Command.{Command}
use Rattle.cs_words.specs.declared.command.Command.TheVariants.{OfPair}
use Rattle.cs_words.specs.declared.command.PairCommand.TheVariants as of_pair
use Rattle.cs_run.specs.Command.Carrying.{WritesByPair}
use Rattle.cs_run.proofs.OnCommand.Performing.{lexical_so, suite_so}
use Rattle.cs_run.proofs.command.command.of_pair.Goals as goal

pub returns-in-OfPair-Suite-clause-writes : goal.returns-in-OfPair-Suite-clause-writes
returns-in-OfPair-Suite-clause-writes g c =
    let asked : c.in-OfPair-Suite.field-0 ≡ of_pair.Suite = rw c.in-OfPair-Suite.is at c.in-OfPair-Suite.field-0-is in
    let is : c.args.command ≡ OfPair of_pair.Suite = c.in-OfPair-Suite.is ∙ ap OfPair asked in
    λ arguments. suite_so c.suite.result _ c.args.command arguments c.args.options.now c.args.pair.now is c.suite.ensures.writes

pub returns-in-OfPair-Lexical-clause-writes : goal.returns-in-OfPair-Lexical-clause-writes
returns-in-OfPair-Lexical-clause-writes g c =
    let asked : c.in-OfPair-Lexical.field-0 ≡ of_pair.Lexical = rw c.in-OfPair-Lexical.is at c.in-OfPair-Lexical.field-0-is in
    let is : c.args.command ≡ OfPair of_pair.Lexical = c.in-OfPair-Lexical.is ∙ ap OfPair asked in
    λ arguments. lexical_so c.lexical.result _ c.args.command arguments c.args.options.now c.args.pair.now is c.lexical.ensures.writes

pub returns-in-OfPair-Chains-clause-writes : goal.returns-in-OfPair-Chains-clause-writes
returns-in-OfPair-Chains-clause-writes g c =
    let asked : c.in-OfPair-Chains.field-0 ≡ of_pair.Chains = rw c.in-OfPair-Chains.is at c.in-OfPair-Chains.field-0-is in
    let is : c.args.command ≡ OfPair of_pair.Chains = c.in-OfPair-Chains.is ∙ ap OfPair asked in
    subst (λ (d : Command). WritesByPair d c.args.options.now c.args.pair.now c.of_lexemes.result (used g.O.Sink c.args.out.now c.of_lexemes.new.out)) (sym is) c.of_lexemes.ensures.writes

pub returns-in-OfPair-Spell-clause-writes : goal.returns-in-OfPair-Spell-clause-writes
returns-in-OfPair-Spell-clause-writes g c =
    let asked : c.in-OfPair-Spell.field-0 ≡ of_pair.Spell = rw c.in-OfPair-Spell.is at c.in-OfPair-Spell.field-0-is in
    let is : c.args.command ≡ OfPair of_pair.Spell = c.in-OfPair-Spell.is ∙ ap OfPair asked in
    subst (λ (d : Command). WritesByPair d c.args.options.now c.args.pair.now c.of_lexemes-in-OfPair-Spell.result (used g.O.Sink c.args.out.now c.of_lexemes-in-OfPair-Spell.new.out)) (sym is) c.of_lexemes-in-OfPair-Spell.ensures.writes

pub returns-in-OfPair-Deep-clause-writes : goal.returns-in-OfPair-Deep-clause-writes
returns-in-OfPair-Deep-clause-writes g c =
    let asked : c.in-OfPair-Deep.field-0 ≡ of_pair.Deep = rw c.in-OfPair-Deep.is at c.in-OfPair-Deep.field-0-is in
    let is : c.args.command ≡ OfPair of_pair.Deep = c.in-OfPair-Deep.is ∙ ap OfPair asked in
    subst (λ (d : Command). WritesByPair d c.args.options.now c.args.pair.now c.of_lexemes-in-OfPair-Deep.result (used g.O.Sink c.args.out.now c.of_lexemes-in-OfPair-Deep.new.out)) (sym is) c.of_lexemes-in-OfPair-Deep.ensures.writes

pub returns-in-OfPair-Wrong-clause-writes : goal.returns-in-OfPair-Wrong-clause-writes
returns-in-OfPair-Wrong-clause-writes g c =
    let asked : c.in-OfPair-Wrong.field-0 ≡ of_pair.Wrong = rw c.in-OfPair-Wrong.is at c.in-OfPair-Wrong.field-0-is in
    let is : c.args.command ≡ OfPair of_pair.Wrong = c.in-OfPair-Wrong.is ∙ ap OfPair asked in
    subst (λ (d : Command). WritesByPair d c.args.options.now c.args.pair.now c.of_lexemes-in-OfPair-Wrong.result (used g.O.Sink c.args.out.now c.of_lexemes-in-OfPair-Wrong.new.out)) (sym is) c.of_lexemes-in-OfPair-Wrong.ensures.writes
