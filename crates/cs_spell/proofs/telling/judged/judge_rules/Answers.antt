-- One verdict more; the tokens of each are few, since its derivation is within the limit.
use Rattle.std.proofs.Common.{◌≡◌, ap, arith, length, subst}
use Rattle.std.proofs.lemmas.List.{length_push}
use Rattle.cs_grammar.specs.Grammar.{PlainGrammar}
use Rattle.cs_grammar.specs.Weights.{Weighed, Weighs}
use Rattle.cs_spell.proofs.OnTelling.Judging.{judge_more}
use Rattle.cs_spell.proofs.OnTelling.Naming.{few_judged}
use Rattle.cs_spell.proofs.telling.judged.judge_rules.Goals as goal

pub loop-place-init : goal.loop-place-init
loop-place-init c = rw c.new-judged.ensures.items (record { all = omega arith; each = λ k j at. absurd cc })

pub loop-place-preserved : goal.loop-place-preserved
loop-place-preserved c =
    let v = c.args.embeds.now in
    let judged = c.loop-place.judged.items in
    let h = c.loop-place.invariant in
    rw c.in_ok-push.ensures.items (record {
      all = omega (arith, h.all, length_push judged c.in_ok-judge_rule.field-0);
      each = judge_more v judged c.in_ok-judge_rule.field-0 c.loop-place.place h.all c.in_ok-judge_rule.ensures h.each;
    })

pub returns-clause-few : goal.returns-clause-few
returns-clause-few c =
    let v = c.args.embeds.now in
    let judged = c.loop-place.judged.items in
    let weighs = subst (λ (w : Weighed). Weighs w.weights w.grammar) c.costs.ensures c.weights-weighs.ensures.weighs in
    let all : length judged ≡ length v.grammar.rules =
    omega (arith, c.loop-place.invariant.all, ap length c.rules-rules.ensures.rules, ap (λ (g : PlainGrammar). length g.rules) c.grammar.ensures)
    in
    few_judged v weighs.weights weighs.grammar judged (record { all = all; each = c.loop-place.invariant.each })
