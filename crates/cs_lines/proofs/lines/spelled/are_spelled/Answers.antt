-- What is left behind one byte spells a text where the whole does, and at the end nothing may be left.
use Rattle.std.proofs.Common.{sym, subst}
use Rattle.cs_lines.proofs.OnLines.Spelled.{spelled_at_end, spelled_more, spelled_less}
use Rattle.cs_lines.specs.Lines.Spelled.{AreSpelled}
use Rattle.cs_lines.proofs.lines.spelled.are_spelled.Goals as goal

pub loop-front-preserved : goal.loop-front-preserved
loop-front-preserved c =
    let front = c.in-Some.ensures in
    let rest = c.from_offset-rest.ensures in (
      λ s. c.loop-front.invariant.0 (spelled_more _ _ _ front (subst AreSpelled rest s)),
      λ s. subst AreSpelled (sym rest) (spelled_less _ _ _ front (c.loop-front.invariant.1 s)),
    )

pub returns : goal.returns
returns c =
    let here = spelled_at_end c.loop-front.rest.now c.is_empty.result c.is_empty.ensures c.in_default.ensures in
    (λ t. c.loop-front.invariant.0 (here.0 t), λ s. here.1 (c.loop-front.invariant.1 s))
