-- The rule that is read is the last one, and unless it is `|`, the rules end with a kind.
use Rattle.std.proofs.Common.{◌∙◌, arith, refl, sym}
use Rattle.cs_lex.specs.Reading.Reading.{dangling_bar, many_rules}
use Rattle.cs_lex.proofs.OnReading.LastRules.{last_is, ends_there, some_there}
use Rattle.cs_lex.proofs.reading.rules.check_rules.Goals as goal

pub returns-then-is_bar-clause-refused : goal.returns-then-is_bar-clause-refused
returns-then-is_bar-clause-refused c = λ ds. dangling_bar _ (last_is c.args.rules.now _ (some_there c.args.rules.now (sym c.is_empty.ensures ∙ c.if-is_empty.false))) (c.is_bar.ensures.yes c.if-is_bar.true) refl

pub returns-then-rules-gt-MOST_RULES-clause-refused : goal.returns-then-rules-gt-MOST_RULES-clause-refused
returns-then-rules-gt-MOST_RULES-clause-refused c = λ ds. many_rules (ends_there c.args.bytes.now c.args.rules.now _ (some_there c.args.rules.now (sym c.is_empty.ensures ∙ c.if-is_empty.false)) (c.is_bar.ensures.no c.if-is_bar.false)) (omega arith) refl

pub returns-clause-ok : goal.returns-clause-ok
returns-clause-ok c = record { ends = ends_there c.args.bytes.now c.args.rules.now _ (some_there c.args.rules.now (sym c.is_empty.ensures ∙ c.if-is_empty.false)) (c.is_bar.ensures.no c.if-is_bar.false); few = omega arith }
