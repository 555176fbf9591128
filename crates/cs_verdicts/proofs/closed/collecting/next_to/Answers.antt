-- The end stands behind the tokens exactly where it is adjacent to the mark.
use Rattle.std.proofs.Common.{◌≡◌, ◌↔◌, List, true, false, refl, sym, ap, ◌∙◌, subst}
use Rattle.std.specs.Global.{Vec}
use Rattle.std.specs.Prelude.{IsTrue}
use Rattle.cs_goals.specs.Goals.{right_marks, token_marks}
use Rattle.cs_grammar.specs.declared.symbol.Mark.{Mark}
use Rattle.cs_grammar.specs.declared.symbol.Mark.TheVariants.{End}
use Rattle.cs_grammar.specs.Weights.{Weighed}
use Rattle.cs_verdicts.specs.Closed.Closed.{AreNext, AreThose}
use Rattle.cs_pairs.specs.Pairs.Pairs.{IsAdjacent}
use Rattle.cs_verdicts.proofs.OnClosed.Collected.{next_not, next_so}
use Rattle.cs_verdicts.proofs.closed.collecting.next_to.Goals as goal
use Rattle.cs_verdicts.proofs.closed.collecting.next_to.Goals.{then-adjacent+in_ok-push, else-adjacent}

pub returns : goal.returns
returns c =
    let g = c.args.tables.now.grammar in
    let mark = c.args.mark in
    let told = subst (λ (v : Weighed). IsTrue c.adjacent.result ↔ IsAdjacent v.grammar mark End) c.pairs.ensures c.adjacent.ensures in
    let whole : AreThose (IsAdjacent g mark) (right_marks g.tokens) c.if-adjacent.list.items =
    elim c.if-adjacent.branch [
      | then-adjacent+in_ok-push w ↦
          next_so (IsAdjacent g mark) (token_marks g.tokens) c.in_ok-list.list.items End (right_marks g.tokens) c.if-adjacent.list.items refl
          (ap (λ (v : Vec Mark). v.items) w.list-is ∙ w.in_ok-push.ensures.items) c.in_ok-list.ensures (told.0 w.if-adjacent.true)
      | else-adjacent w ↦
          subst (λ (v : Vec Mark). AreThose (IsAdjacent g mark) (right_marks g.tokens) v.items) (sym w.list-is)
          (next_not (IsAdjacent g mark) (token_marks g.tokens) c.in_ok-list.list.items End (right_marks g.tokens) refl c.in_ok-list.ensures (λ so. let e : true ≡ false = sym (told.1 so) ∙ w.if-adjacent.false in cc))
    ]
    in
    subst (λ (l : List Mark). AreNext g mark l) (sym c.new.ensures) whole
