-- There are two lines, two of each token and one of each rule.
use Rattle.std.proofs.Common.{List, length, ap, arith}
use Rattle.cs_grammar.specs.Grammar.{Production}
use Rattle.cs_check.proofs.OnDues.{tables_long}
use Rattle.cs_check.proofs.checking.due.tables_size.Goals as goal

pub returns : goal.returns
returns c = omega (arith, tables_long c.args.grammar.now, c.tokens.ensures, ap (λ (l : List Production). length l) c.rules.ensures.rules)
