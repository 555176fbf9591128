-- All sets that the same lines claim have the same members, so one is closed where another is.
use Rattle.std.proofs.Common.{sym, subst}
use Rattle.cs_grammar.specs.Grammar.{PlainGrammar}
use Rattle.cs_closed.specs.Closed.Closed.{AreClosed}
use Rattle.cs_check.proofs.OnChecking.Agreeing.{claimed_closed}
use Rattle.cs_check.proofs.checking.excluded.close.Goals as goal

pub returns : goal.returns
returns c = λ lines claimed. (
  λ e s other. claimed_closed c.args.file.now lines c.args.sets.now s claimed other
      (subst (λ (g : PlainGrammar). AreClosed g c.args.sets.now) c.grammar.ensures.grammar (c.are_closed.ensures.0 e)),
  λ closed. c.are_closed.ensures.1 (subst (λ (g : PlainGrammar). AreClosed g c.args.sets.now) (sym c.grammar.ensures.grammar) (closed c.args.sets.now claimed)),
)
