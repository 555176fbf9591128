-- In the head the head tells whether it has ended; behind it the head is at its end.
use Rattle.std.proofs.Common.{◌≤◌, length, refl, sym, subst, arith}
use Rattle.cs_grammar.specs.Grammar.{PlainGrammar}
use Rattle.std.specs.Prelude.{IsTrue, ◌↔◌}
use Rattle.cs_check.specs.Passing.Head.{head_size}
use Rattle.cs_check.proofs.OnChecking.Placing.{knows_head, is_past}
use Rattle.cs_check.proofs.checking.above.Above.is_past.Goals as goal

pub returns-in-InHead : goal.returns-in-InHead
returns-in-InHead c = λ above k.
    let file = c.args.yacc.now in
    let same = c.grammar.ensures.grammar in
    subst (λ (g : PlainGrammar). IsTrue c.is_ended.result ↔ (head_size g above ≤ length above)) same
    (c.is_ended.ensures file above (sym same) (knows_head file above c.args.self.now k c.in-InHead.is))

pub returns-in_default : goal.returns-in_default
returns-in_default c = λ above k.
    let past = (is_past c.args.yacc.now above c.args.self.now k c.in_default.not-InHead).past in
    (λ e. omega arith, λ h. refl)
