-- The pairs that the edit makes tell it where the base is sound, and else all behind the pair.
use Rattle.std.proofs.Common.{◌↔◌, subst}
use Rattle.std.specs.Prelude.{IfOk, IsTrue}
use Rattle.cs_mutate.specs.Kept.{IsOnly}
use Rattle.cs_mutate.specs.Negatives.{Search}
use Rattle.cs_mutate.proofs.negative.Negatives.is_only.Goals as goal

pub only_touched-requires-clause-sound : goal.only_touched-requires-clause-sound
only_touched-requires-clause-sound c = c.self.invariant.known.0 c.if-self.true

pub returns-then-self : goal.returns-then-self
returns-then-self c =
    subst (λ (t : Search). IsTrue c.only_touched.result ↔ IsOnly t.grammar t.base c.args.negative.now) c.self.view_is c.only_touched.ensures

pub returns : goal.returns
returns c =
    subst (λ (t : Search). IfOk c.only_edited.result (λ only. IsTrue only ↔ IsOnly t.grammar t.base c.args.negative.now)) c.self.view_is c.only_edited.ensures
