-- Poisoned pairs stand in the seam alone, so the first is the only one where the seam behind it is sound.
use Rattle.std.proofs.Common.{◌+◌}
use Rattle.cs_mutate.proofs.Behind.{only_by_seam, place_in_seam}
use Rattle.cs_mutate.proofs.Seams.{mark_right}
use Rattle.cs_mutate.proofs.touched.only_seam.Goals as goal

pub overflow_sub-at : goal.overflow_sub-at
overflow_sub-at c =
    (place_in_seam c.args.pairs.now.grammar c.args.base.now c.args.place c.args.gone c.mark_at-right.result c.args.put.now c.requires.sound c.requires.inside c.mark_at-right.ensures c.args.at c.requires.first).0

pub sound_behind-requires-clause-right : goal.sound_behind-requires-clause-right
sound_behind-requires-clause-right c =
    mark_right c.args.pairs.now.grammar.tokens c.args.base.now c.requires.tokens (c.args.place + c.args.gone) c.mark_at-right.result c.mark_at-right.ensures

pub sound_behind-requires-clause-inside : goal.sound_behind-requires-clause-inside
sound_behind-requires-clause-inside c =
    (place_in_seam c.args.pairs.now.grammar c.args.base.now c.args.place c.args.gone c.mark_at-right.result c.args.put.now c.requires.sound c.requires.inside c.mark_at-right.ensures c.args.at c.requires.first).1

pub returns : goal.returns
returns c =
    only_by_seam c.args.pairs.now.grammar c.args.base.now c.args.place c.args.gone c.mark_at-right.result c.args.put.now c.requires.sound c.requires.inside c.mark_at-right.ensures c.args.at c.requires.first
    c.sound_behind.result c.sound_behind.ensures
