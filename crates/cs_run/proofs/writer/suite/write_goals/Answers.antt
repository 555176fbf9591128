-- The tables are of the file's grammar, by the weights that the options choose.
use Rattle.std.proofs.Common.{ap, ◌∙◌}
use Rattle.cs_grammar.specs.Grammar.{PlainGrammar}
use Rattle.cs_grammar.specs.Weights.{Measure, weighed}
use Rattle.cs_run.proofs.writer.suite.write_goals.Goals as goal

pub write_verdicts-requires-clause-tables : goal.write_verdicts-requires-clause-tables
write_verdicts-requires-clause-tables g c = λ κs met.
    c.in_ok-tables.ensures ∙ ap (λ (h : PlainGrammar). weighed h c.args.weights.now) c.grammar.ensures.grammar ∙ ap (λ (w : Measure). weighed c.args.file.now.grammar w) c.requires.weights
