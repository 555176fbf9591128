-- One rule more keeps the token, up to the last.
use Rattle.std.proofs.Common.{subst, List}
use Rattle.std.specs.Prelude.{All}
use Rattle.std.proofs.lemmas.List.{take_all}
use Rattle.std.proofs.lemmas.List.Elements.{All-more}
use Rattle.cs_grammar.specs.Grammar.{Production}
use Rattle.cs_closed.specs.Closed.Keeping.{KeepsToken}
use Rattle.cs_closed.proofs.closed.sets.Sets.keep_token.Goals as goal

pub loop-rule-preserved : goal.loop-rule-preserved
loop-rule-preserved c =
    All-more (KeepsToken c.args.self.now c.args.token) c.args.rules.now c.loop-rule.rule-index c.rule-item.result c.loop-rule-test.true c.loop-rule.invariant
    (subst (KeepsToken c.args.self.now c.args.token) c.rule-item.is (c.keeps_token.ensures.0 c.if-not-keeps_token.false))

pub returns : goal.returns
returns c = (
  λ e. subst (λ (l : List Production). All (KeepsToken c.args.self.now c.args.token) l) (take_all c.loop-rule.rule-index c.args.rules.now c.loop-rule-test.false) c.loop-rule.invariant,
  λ h. cc,
)
