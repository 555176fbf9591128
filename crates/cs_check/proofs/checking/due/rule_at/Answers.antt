-- The first so many places are those of the lines of this kind, and those behind them are the rest's.
use Rattle.std.proofs.Common.{List, length, ap, ◌∙◌}
use Rattle.cs_grammar.specs.Grammar.{Production}
use Rattle.cs_check.specs.Passing.Head.{TheRule}
use Rattle.cs_check.specs.Passing.Dues.{lexemes_on}
use Rattle.cs_check.proofs.OnDues.{due_within, due_behind}
use Rattle.cs_check.proofs.checking.due.rule_at.Goals as goal

pub returns-then-place-rules : goal.returns-then-place-rules
returns-then-place-rules c =
    due_within TheRule (lexemes_on c.args.grammar.now) (length c.rules-rules.result.now) (length c.args.grammar.now.rules) c.args.place (ap (λ (l : List Production). length l) c.rules-rules.ensures.rules) c.number_of.result c.number_of.ensures c.if-place-rules.true

pub returns-else-place-rules : goal.returns-else-place-rules
returns-else-place-rules c =
    c.lexeme_at.ensures ∙ due_behind TheRule (lexemes_on c.args.grammar.now) (length c.rules-rules.result.now) (length c.args.grammar.now.rules) c.args.place (ap (λ (l : List Production). length l) c.rules-rules.ensures.rules) c.if-place-rules.false
