-- The first so many places are those of the lines of this kind, and those behind them are the rest's.
use Rattle.std.proofs.Common.{◌∙◌}
use Rattle.cs_lines.specs.Lines.Line.{First}
use Rattle.cs_check.specs.Passing.Head.{TheRow}
use Rattle.cs_check.specs.Passing.Dues.{last_on}
use Rattle.cs_check.proofs.OnDues.{due_within, due_behind}
use Rattle.cs_check.proofs.checking.due.first_at.Goals as goal

pub returns-then-place-nonterminals : goal.returns-then-place-nonterminals
returns-then-place-nonterminals c =
    due_within (TheRow First) (last_on c.args.grammar.now) c.nonterminals-nonterminals.result c.args.grammar.now.nonterminals c.args.place c.nonterminals-nonterminals.ensures c.number_of.result c.number_of.ensures c.if-place-nonterminals.true

pub returns-else-place-nonterminals : goal.returns-else-place-nonterminals
returns-else-place-nonterminals c =
    c.last_at.ensures ∙ due_behind (TheRow First) (last_on c.args.grammar.now) c.nonterminals-nonterminals.result c.args.grammar.now.nonterminals c.args.place c.nonterminals-nonterminals.ensures c.if-place-nonterminals.false
