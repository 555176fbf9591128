-- Behind the tables stand three sets, two rows of each nonterminal, and one of the begin mark and each token.
use Rattle.std.proofs.Common.{List, length, ap, arith}
use Rattle.cs_grammar.specs.Grammar.{Production}
use Rattle.cs_check.proofs.OnDues.{whole_long}
use Rattle.cs_check.proofs.checking.due.whole_size.Goals as goal

pub returns : goal.returns
returns c = omega (arith, whole_long c.args.grammar.now, c.tokens-tokens.ensures, c.nonterminals-nonterminals.ensures, ap (λ (l : List Production). length l) c.rules-rules.ensures.rules)
