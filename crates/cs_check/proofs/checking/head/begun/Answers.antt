-- Where no line claims anything, the sets with nothing in them are claimed.
use Rattle.std.proofs.Common.{◌≡◌, Option, sym, ap, ◌∙◌, subst}
use Rattle.std.specs.Prelude.{IfNone}
use Rattle.std.proofs.lemmas.Result.{IfOk-weaker}
use Rattle.cs_grammar.specs.Grammar.{PlainGrammar}
use Rattle.cs_closed.specs.Closed.Sets.{PlainSets, no_sets}
use Rattle.cs_check.specs.Passing.Head.{AreClaimed}
use Rattle.cs_check.specs.Checking.Head.{IsUnclaimed}
use Rattle.cs_check.proofs.OnChecking.HeadClaims.{begun_claimed}
use Rattle.cs_check.proofs.checking.head.begun.Goals as goal

pub returns-in-None-clause-claimed : goal.returns-in-None-clause-claimed
returns-in-None-clause-claimed c = λ lines sets unclaimed.
    let file = c.args.file.now in
    let none = subst (λ (t : Option PlainSets). IfNone t (IsUnclaimed lines)) c.in-None.is unclaimed in
    let same = ap (λ (g : PlainGrammar). no_sets g) c.grammar.ensures.grammar in
    IfOk-weaker c.none.result (λ (s : PlainSets). s ≡ no_sets c.grammar.result.now) (AreClaimed file lines)
    (λ s e. subst (λ (x : PlainSets). AreClaimed file lines x) (sym (e ∙ same)) (begun_claimed file lines none)) c.none.ensures.none
