-- One rule's pattern and positions more, and a pattern that is refused refuses the rules.
use Rattle.std.proofs.Common.{get_or}
use Rattle.std.proofs.lemmas.List.{get_or_default}
use Rattle.std.proofs.lemmas.Result.{err_from_is_err_and}
use Rattle.cs_lex.specs.declared.layout.parts.Rule.{Rule}
use Rattle.cs_lex.proofs.OnReading.PatternsFound.{found_more, some_refused}
use Rattle.cs_lex.proofs.reading.patterns.collect_patterns.Goals as goal

zero_rule : Rule
zero_rule = record { at = 0; pattern = record { from = 0; to = 0 }; action = record { from = 0; to = 0 } }

pub returns-in_err-pattern-clause-refused : goal.returns-in_err-pattern-clause-refused
unfolding zero_rule
returns-in_err-pattern-clause-refused c =
    let p = err_from_is_err_and c.from_residual.result c.from_residual.ensures.1 in
    let r : Rule = get_or c.args.rules.now c.loop-rule.rule-index zero_rule in
    rw (p.1, p.2) (some_refused c.args.definitions.now c.args.bytes.now c.args.rules.now c.loop-rule.rule-index r c.loop-rule.patterns.items c.loop-rule.leaves c.in_err-pattern.field-0.0 c.loop-rule.invariant
    c.loop-rule-test.true (get_or_default c.args.rules.now c.loop-rule.rule-index zero_rule r c.loop-rule-test.true) c.in_err-pattern.ensures.refused)

pub loop-rule-preserved : goal.loop-rule-preserved
unfolding zero_rule
loop-rule-preserved c =
    let r : Rule = get_or c.args.rules.now c.loop-rule.rule-index zero_rule in
    found_more c.args.definitions.now c.args.bytes.now c.args.rules.now c.loop-rule.rule-index r c.in_ok-pattern.pattern c.loop-rule.patterns.items c.keep.new.patterns.items c.loop-rule.leaves c.in_ok-leaves.field-0 c.loop-rule.invariant
    c.loop-rule-test.true (get_or_default c.args.rules.now c.loop-rule.rule-index zero_rule r c.loop-rule-test.true) c.in_ok-pattern.ensures.read c.in_ok-leaves.ensures c.in_ok-keep.ensures
