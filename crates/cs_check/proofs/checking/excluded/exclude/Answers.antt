-- All sets that the same lines claim have the same members, so they exclude the same goals.
use Rattle.std.proofs.Common.{sym, subst, Option}
use Rattle.cs_grammar.specs.Grammar.{PlainGrammar}
use Rattle.cs_closed.specs.Closed.Sets.{PlainSets}
use Rattle.cs_closed.specs.Closed.Closed.{Excludes}
use Rattle.cs_check.specs.Checking.Excluded.{AreSetsIn}
use Rattle.cs_check.proofs.OnChecking.Agreeing.{claimed_exclude}
use Rattle.cs_check.proofs.checking.excluded.exclude.Goals as goal

pub returns-in-Some : goal.returns-in-Some
returns-in-Some c = λ lines told.
    let file = c.args.file.now in
    let s = c.in-Some.sets in
    let here = subst (λ (o : Option PlainSets). AreSetsIn file lines o) c.in-Some.is told in (
      λ e. (here.0, s, here.1, subst (λ (g : PlainGrammar). Excludes g s c.args.goal.now) c.grammar.ensures.grammar (c.excludes.ensures.0 e)),
      λ h. c.excludes.ensures.1
          (subst (λ (g : PlainGrammar). Excludes g s c.args.goal.now) (sym c.grammar.ensures.grammar)
          (claimed_exclude file lines h.1 s h.2 here.1 c.args.goal.now h.3)),
    )
