-- All pairs before and behind the seam are adjacent, so the first poisoned one is the seam's first.
use Rattle.std.proofs.Common.{◌+◌, arith}
use Rattle.cs_mutate.proofs.Seams.{around, mark_left, mark_right, seam_place, sound_behind, poisoned_behind}
use Rattle.cs_mutate.proofs.touched.poison_seam.Goals as goal

pub poison_put-requires-clause-left : goal.poison_put-requires-clause-left
poison_put-requires-clause-left c =
    mark_left c.args.pairs.now.grammar.tokens c.args.base.now c.requires.tokens c.args.place c.mark_at-left.result (omega (arith, c.requires.inside)) c.mark_at-left.ensures

pub poison_put-requires-clause-right : goal.poison_put-requires-clause-right
poison_put-requires-clause-right c =
    mark_right c.args.pairs.now.grammar.tokens c.args.base.now c.requires.tokens (c.args.place + c.args.gone) c.mark_at-right.result c.mark_at-right.ensures

pub overflow_add-result : goal.overflow_add-result
overflow_add-result c =
    let at = seam_place c.args.pairs.now.grammar c.mark_at-left.result c.mark_at-right.result c.args.put.now c.in-Some.found.at c.in-Some.found.left c.in-Some.found.right c.in-Some.ensures in
    omega (arith, c.requires.few, c.requires.short, c.requires.inside)

pub returns-in-Some : goal.returns-in-Some
returns-in-Some c =
    let w = c.args.base.now in
    let left = c.mark_at-left.result in
    let right = c.mark_at-right.result in
    let h = around w c.args.place c.args.gone left right c.requires.inside c.mark_at-left.ensures c.mark_at-right.ensures in
    let found = c.in-Some.found in
    poisoned_behind w c.args.place c.args.gone left right h c.args.pairs.now.grammar c.requires.sound c.args.put.now found.at (found.at + c.args.place) found.left found.right (omega arith) c.in-Some.ensures

pub returns-in-None : goal.returns-in-None
returns-in-None c =
    let w = c.args.base.now in
    let left = c.mark_at-left.result in
    let right = c.mark_at-right.result in
    let h = around w c.args.place c.args.gone left right c.requires.inside c.mark_at-left.ensures c.mark_at-right.ensures in
    sound_behind w c.args.place c.args.gone left right h c.args.pairs.now.grammar c.requires.sound c.args.put.now c.in-None.ensures
