-- The rules of a chain as the code has them. Working words of proofs.
use Rattle.std.specs.Prelude.{ℕ, All}
use Rattle.cs_grammar.specs.Grammar.{Production, PlainGrammar, IsRule, IsRuleOf, IsSymbolOf}
use Rattle.cs_least.specs.declared.cost.cost.Cost.{Cost}
use Rattle.cs_least.specs.Cost.Rank.{cost_of, plus}
use Rattle.cs_chain.specs.declared.chains.chain.Chain.{Chain}
use Rattle.cs_chain.specs.declared.judging.cuts.Cut.{Cut}
use Rattle.cs_chain.specs.declared.judging.cuts.Rules.{Rules}
use Rattle.cs_chain.specs.Judging.Verdict.{IsSplit}

-- rule p, cut at place i, where the left side of rule q stands
pub record IsCutAt (g : PlainGrammar) (p i q : ℕ) (cut : Cut) : Type 0 where
  pub inner : Production
  pub is_inner : IsRule g q inner
  pub split : IsSplit g p i inner.left cut.rule.now cut.before.now cut.behind.now

-- the three rules
pub record AreRulesOf (g : PlainGrammar) (c : Chain) (rules : Rules) : Type 0 where
  pub outer : IsCutAt g c.outer c.place c.middle rules.outer
  pub middle : IsCutAt g c.middle c.spot c.inner rules.middle
  pub inner : IsRule g c.inner rules.inner.now

-- what it names is of the grammar
pub record FitsCut (g : PlainGrammar) (cut : Cut) : Type 0 where
  pub rule : IsRuleOf g.tokens g.nonterminals cut.rule.now
  pub before : All (IsSymbolOf g) cut.before.now
  pub behind : All (IsSymbolOf g) cut.behind.now

pub record FitsRules (g : PlainGrammar) (rules : Rules) : Type 0 where
  pub outer : FitsCut g rules.outer
  pub middle : FitsCut g rules.middle
  pub inner : IsRuleOf g.tokens g.nonterminals rules.inner.now

-- a node above its children
abbrev pub node_cost : ℕ → Cost → Cost
node_cost limit children = plus limit (cost_of limit 1) children
