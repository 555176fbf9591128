-- The rules of a chain, as the code has them.
use Rattle.std.proofs.Common.{refl, subst}
use Rattle.cs_grammar.specs.Grammar.{Production, PlainGrammar}
use Rattle.cs_grammar.proofs.OneTree.{one_rule}
use Rattle.cs_chain.specs.declared.chains.chain.Chain.{Chain}
use Rattle.cs_chain.specs.declared.judging.cuts.Rules.{Rules}
use Rattle.cs_chain.specs.Judging.Cuts.{AreRulesOf}
use Rattle.cs_chain.specs.Judging.Verdict.{IsSplit, ChainRules}

abbrev pub rules_given : (g : PlainGrammar) (c : Chain) (rules : Rules) → AreRulesOf g c rules → ChainRules g c
rules_given g c rules are = record {
  outer = rules.outer.rule.now;
  middle = rules.middle.rule.now;
  inner = rules.inner.now;
  before = rules.outer.before.now;
  behind = rules.outer.behind.now;
  low_before = rules.middle.before.now;
  low_behind = rules.middle.behind.now;
  is_outer = subst (λ (p : Production). IsSplit g c.outer c.place p.left rules.outer.rule.now rules.outer.before.now rules.outer.behind.now)
      (one_rule g c.middle c.middle are.outer.inner rules.middle.rule.now refl are.outer.is_inner are.middle.split.number) are.outer.split;
  is_middle = subst (λ (p : Production). IsSplit g c.middle c.spot p.left rules.middle.rule.now rules.middle.before.now rules.middle.behind.now)
      (one_rule g c.inner c.inner are.middle.inner rules.inner.now refl are.middle.is_inner are.inner) are.middle.split;
  is_inner = are.inner;
}
