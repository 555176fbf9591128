-- The slips of one more rule are put behind those of the rules before it.
use Rattle.std.proofs.Common.{◌<◌, List, ap, arith, get_or, length, refl, ◌∙◌}
use Rattle.std.proofs.lemmas.Option.{slice_get_read}
use Rattle.cs_grammar.specs.Grammar.{Production}
use Rattle.cs_wrong.proofs.OnSlips.Putting.{rules_more}
use Rattle.cs_wrong.proofs.slips.slips.slips_of.Goals as goal

pub loop-at-preserved : goal.loop-at-preserved
loop-at-preserved c =
    let within : c.loop-at.at < length c.args.grammar.now.rules =
    (let test = c.loop-at-test.true in let same = ap (λ (l : List Production). length l) c.rules-rule-items.ensures.rules in omega arith) in
    rules_more c.args.chosen c.args.grammar.now.rules c.loop-at.at c.number_of.result c.rule-item.result c.right.result.now c.loop-at.list.items c.put_slips.new.list.items
    (slice_get_read c.args.grammar.now.rules _ c.loop-at.at c.rule-item.result refl within (c.rule-item.is ∙ ap (λ (l : List Production). get_or l c.loop-at.at c.rule-item.result) c.rules-rule-items.ensures.rules))
    (omega (arith, c.number_of.ensures)) c.right.ensures c.loop-at.invariant c.in_ok-put_slips.ensures
