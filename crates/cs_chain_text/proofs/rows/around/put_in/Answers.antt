-- Settled tokens stand in front of the leftmost nonterminal, and the rule's right side takes its place.
use Rattle.std.proofs.Common.{List, ◌++◌, reverse, sym, ap, ◌∙◌}
use Rattle.cs_grammar.specs.declared.symbol.Symbol.{Symbol}
use Rattle.cs_grammar.specs.Walk.{in_hand}
use Rattle.cs_grammar.proofs.Leading.{front_some}
use Rattle.cs_chain_text.proofs.OnRows.Around.{put_one}
use Rattle.cs_chain_text.proofs.rows.around.put_in.Goals as goal

pub returns : goal.returns
returns c = λ _.
    let rest = reverse c.settle.new.pending.items in
    put_one c.args.grammar.now c.args.number c.in-Some-get_rule.rule.now (in_hand c.args.done.now c.args.pending.now) c.settle.new.done.items c.in-Some.left rest (reverse c.put_on_top.new.stack.items)
    c.in-Some-get_rule.ensures.some (sym c.left.ensures ∙ c.if-left.false) (front_some _ c.settle.new.done c.settle.new.pending _ _ c.in-Some.is c.in_ok-left.ensures)
    (c.in_ok-put_on_top.ensures.ok ∙ ap (λ (xs : List Symbol). xs ++ rest) c.right.ensures)
