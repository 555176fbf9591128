-- The first so many places are those of the lines of this kind, and those behind them are the rest's.
use Rattle.std.proofs.Common.{◌∙◌}
use Rattle.cs_check.specs.Passing.Head.{TheToken}
use Rattle.cs_check.specs.Passing.Dues.{rules_on}
use Rattle.cs_check.proofs.OnDues.{due_within, due_behind}
use Rattle.cs_check.proofs.checking.due.token_at.Goals as goal

pub returns-then-place-tokens : goal.returns-then-place-tokens
returns-then-place-tokens c =
    due_within TheToken (rules_on c.args.grammar.now) c.tokens-tokens.result c.args.grammar.now.tokens c.args.place c.tokens-tokens.ensures c.number_of.result c.number_of.ensures c.if-place-tokens.true

pub returns-else-place-tokens : goal.returns-else-place-tokens
returns-else-place-tokens c =
    c.rule_at.ensures ∙ due_behind TheToken (rules_on c.args.grammar.now) c.tokens-tokens.result c.args.grammar.now.tokens c.args.place c.tokens-tokens.ensures c.if-place-tokens.false
