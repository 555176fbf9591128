-- One rule more.
use Rattle.std.proofs.Common.{◌+◌, ◌++◌, sym, ap, ◌∙◌, arith, subst, List, append_assoc, map, drop, take}
use Rattle.cs_pattern_parts.specs.Tree.Pattern.{regex}
use Rattle.cs_scanner.specs.declared.automaton.program.Rule.{Rule}
use Rattle.cs_scanner.specs.Automaton.Meaning.{re, res, classes, all_classes}
use Rattle.cs_scanner.specs.Automaton.Programs.{AreRules, values}
use Rattle.cs_scanner.proofs.OnAutomaton.Programming.{rules_more, letters_more, letters_left, classes_left}
use Rattle.cs_scanner.proofs.automaton.program.make_program.Goals as goal

pub loop-i-preserved : goal.loop-i-preserved
loop-i-preserved c =
    let ps = c.args.patterns.now in
    let i = c.loop-i.i in
    let p = c.index-patterns-i.result in
    let lt = c.loop-i-test.true in
    let is = c.index-patterns-i.is in
    let old = c.loop-i.invariant in
    let count = c.in_ok-rule.ensures.count in
    let list = c.in_ok-rule.ensures.classes in
    let P : List Rule → Type 0 = λ t. AreRules t 0 (map regex (take (i + 1) ps)) in
    record {
      count = omega (arith, old.count, count, letters_left ps i p lt is);
      list =
          ap (λ t. t ++ all_classes (res (map regex (drop (i + 1) ps)))) list
          ∙ append_assoc (values c.loop-i.classes.items) (classes (re (regex p))) (all_classes (res (map regex (drop (i + 1) ps))))
          ∙ ap (λ t. values c.loop-i.classes.items ++ t) (sym (classes_left ps i p lt is))
          ∙ old.list;
      before = count ∙ omega (arith, old.before, letters_more ps i p lt is);
      rules = subst P (sym c.in_ok-push.ensures.items) (rules_more c.loop-i.rules.items c.in_ok-rule.rule ps i _ p lt is old.rules old.before c.in_ok-rule.ensures.rule);
    }
