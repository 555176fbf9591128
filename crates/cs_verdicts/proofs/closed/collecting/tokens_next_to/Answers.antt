-- One token more, which is listed exactly where it is adjacent behind the mark.
use Rattle.std.proofs.Common.{◌≡◌, ◌↔◌, ◌+◌, true, false, sym, ap, ◌∙◌, subst}
use Rattle.std.specs.Global.{Vec}
use Rattle.std.specs.Prelude.{IsTrue}
use Rattle.cs_goals.specs.Goals.{token_marks}
use Rattle.cs_grammar.specs.declared.symbol.Mark.{Mark}
use Rattle.cs_grammar.specs.declared.symbol.Mark.TheVariants.{Token}
use Rattle.cs_grammar.specs.Weights.{Weighed}
use Rattle.cs_verdicts.specs.Closed.Closed.{AreThose}
use Rattle.cs_pairs.specs.Pairs.Pairs.{IsAdjacent}
use Rattle.cs_verdicts.proofs.OnClosed.Collected.{marks_more, next_not, next_so}
use Rattle.cs_verdicts.proofs.closed.collecting.tokens_next_to.Goals as goal
use Rattle.cs_verdicts.proofs.closed.collecting.tokens_next_to.Goals.{then-adjacent+in_ok-push, else-adjacent}

pub loop-place-preserved : goal.loop-place-preserved
loop-place-preserved c =
    let mark = c.args.mark in
    let IsSo = IsAdjacent c.args.tables.now.grammar mark in
    let n = c.loop-place.place in
    let told = subst (λ (v : Weighed). IsTrue c.adjacent.result ↔ IsAdjacent v.grammar mark (Token (n + 1))) c.pairs-pairs.ensures c.adjacent.ensures in
    elim c.if-adjacent.branch [
      | then-adjacent+in_ok-push w ↦
          next_so IsSo (token_marks n) c.loop-place.list.items (Token (n + 1)) (token_marks (n + 1)) c.if-adjacent.list.items (marks_more n)
          (ap (λ (v : Vec Mark). v.items) w.list-is ∙ w.in_ok-push.ensures.items) c.loop-place.invariant (told.0 w.if-adjacent.true)
      | else-adjacent w ↦
          subst (λ (v : Vec Mark). AreThose IsSo (token_marks (n + 1)) v.items) (sym w.list-is)
          (next_not IsSo (token_marks n) c.loop-place.list.items (Token (n + 1)) (token_marks (n + 1)) (marks_more n) c.loop-place.invariant (λ so. let e : true ≡ false = sym (told.1 so) ∙ w.if-adjacent.false in cc))
    ]
