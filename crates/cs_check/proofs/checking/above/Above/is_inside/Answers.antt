-- In the head the head tells it; behind the head no line stands in it.
use Rattle.std.proofs.Common.{sym, subst}
use Rattle.cs_grammar.specs.Grammar.{PlainGrammar}
use Rattle.std.specs.Prelude.{IsTrue, ◌↔◌}
use Rattle.std.proofs.lemmas.Bool.{false≢true}
use Rattle.cs_check.specs.Passing.Places.{IsInHead}
use Rattle.cs_check.proofs.OnChecking.Placing.{knows_head, never_in_head}
use Rattle.cs_check.proofs.checking.above.Above.is_inside.Goals as goal

pub returns-in-InHead : goal.returns-in-InHead
returns-in-InHead c = λ above l k tells.
    let file = c.args.yacc.now in
    let same = c.grammar.ensures.grammar in
    subst (λ (g : PlainGrammar). IsTrue c.has_next.result ↔ IsInHead g above l) same
    (c.has_next.ensures file above l (sym same) (knows_head file above c.args.self.now k c.in-InHead.is) tells)

pub returns-in_default : goal.returns-in_default
returns-in_default c = λ above l k tells. (
  λ e. absurd (false≢true e),
  λ h. absurd (never_in_head c.args.yacc.now above c.args.self.now k c.in_default.not-InHead l h),
)
