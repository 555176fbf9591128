-- Each of the four counts is put behind its words.
use Rattle.std.proofs.Common.{ap}
use Rattle.std.specs.Prelude.{codes}
use Rattle.cs_manifest.proofs.OnOutput.Pieces.{spelled, then}
use Rattle.cs_manifest.specs.Output.Words.{numbered_word}
use Rattle.cs_lexical.proofs.put.put_end.Goals as goal

pub returns : goal.returns
returns g c =
    let rules = spelled _ (ap (numbered_word (codes "end rules ")) c.rules.ensures.count) c.put_count.ensures in
    let shadowed = spelled _ (ap (numbered_word (codes " shadowed ")) c.shadowed.ensures) c.put_count-2.ensures in
    let overlaps = spelled _ (ap (numbered_word (codes " overlaps ")) c.pairs-overlaps.ensures.overlaps) c.put_count-3.ensures in
    let disjoint = spelled _ (ap (numbered_word (codes " disjoint ")) c.pairs-overlaps.ensures.disjoint) c.put_count-4.ensures in
    then (then (then (then rules shadowed) overlaps) disjoint) c.put.ensures
