-- One token more stands apart.
use Rattle.std.proofs.Common.{ℕ, List, subst}
use Rattle.std.proofs.lemmas.List.{take_all}
use Rattle.std.proofs.lemmas.List.Elements.{All-more}
use Rattle.cs_texts.specs.Splice.Apart.{AreApart, IsApart}
use Rattle.cs_writing.proofs.plan.texts.room_apart.Goals as goal

pub loop-token-preserved : goal.loop-token-preserved
loop-token-preserved c =
    All-more (IsApart c.args.texts.now.apart.now) c.args.tokens.now c.loop-token.token-index 0 c.loop-token-test.true c.loop-token.invariant (c.has.ensures.0 c.if-not-has.false)

pub returns : goal.returns
returns c =
    subst (λ (l : List ℕ). AreApart c.args.texts.now.apart.now l) (take_all c.loop-token.token-index c.args.tokens.now c.loop-token-test.false) c.loop-token.invariant
