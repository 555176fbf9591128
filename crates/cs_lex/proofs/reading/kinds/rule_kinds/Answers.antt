-- The kind of one rule more, in front of those that have theirs, by the kind next behind it.
use Rattle.std.proofs.Common.{◌-◌, ◌+◌, ◌≡◌, ◌<◌, ℕ, arith, length, get_or, subst}
use Rattle.std.proofs.lemmas.List.{get_or_default}
use Rattle.cs_lex.specs.declared.layout.parts.Rule.{Rule}
use Rattle.cs_lex.proofs.OnReading.KindsFound.{KindsFrom, kinds_more}
use Rattle.cs_lex.proofs.reading.kinds.rule_kinds.Goals as goal

zero_rule : Rule
zero_rule = record { at = 0; pattern = record { from = 0; to = 0 }; action = record { from = 0; to = 0 } }

pub loop-at-preserved : goal.loop-at-preserved
unfolding zero_rule
loop-at-preserved c =
    let at : ℕ = c.loop-at.at - 1 in
    let e : c.loop-at.at ≡ at + 1 = omega arith in
    let lt : at < length c.args.rules.now = omega (arith, c.loop-at.invariant.within) in
    let r : Rule = get_or c.args.rules.now at zero_rule in
    let there : KindsFrom c.args.yacc.now c.args.bytes.now c.args.rules.now (at + 1) c.loop-at.next c.loop-at.kinds.items =
    subst (λ (k : ℕ). KindsFrom c.args.yacc.now c.args.bytes.now c.args.rules.now k c.loop-at.next c.loop-at.kinds.items) e c.loop-at.invariant.kinds in
    record {
      kinds = kinds_more c.args.yacc.now c.args.bytes.now c.args.rules.now at r c.loop-at.next c.rule_kind-next.result c.loop-at.kinds.items c.push.new.self.items c.requires.ends lt (get_or_default c.args.rules.now at zero_rule r lt) there c.rule_kind-next.ensures
          c.in_ok-push.ensures.items;
      within = omega (arith, c.loop-at.invariant.within);
    }
