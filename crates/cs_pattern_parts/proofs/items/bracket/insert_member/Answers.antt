-- A range takes three marks, any other member one, and it is added or refused where it begins.
use Rattle.std.proofs.Common.{arith, sym}
use Rattle.std.proofs.lemmas.List.{get_or-map, length-map}
use Rattle.cs_pattern_parts.specs.Items.Brackets.{collating}
use Rattle.cs_pattern_parts.specs.Items.Views.{mark_of, marks_of}
use Rattle.cs_pattern_parts.proofs.OnItems.Membership.{adds_range, refuses_range, adds_one, refuses_one}
use Rattle.cs_pattern_parts.proofs.items.bracket.insert_member.Goals as goal

pub returns-then-insert_range : goal.returns-then-insert_range
returns-then-insert_range c =
    let n = length-map c.args.marks.now mark_of in
    let w = c.begins_range.ensures.within c.if-begins_range.true in
    adds_range (marks_of c.args.marks.now) c.args.index _ (get_or-map mark_of c.args.marks.now c.args.index _ collating c.requires) _ _ _ (omega (arith, n, w)) (sym c.if-begins_range.ensures.value)
    (get_or-map mark_of c.args.marks.now _ _ collating w) c.if-insert_range.ensures

pub returns-else-insert_range : goal.returns-else-insert_range
returns-else-insert_range c =
    let n = length-map c.args.marks.now mark_of in
    let w = c.begins_range.ensures.within c.if-begins_range.true in
    refuses_range (marks_of c.args.marks.now) c.args.index _ (get_or-map mark_of c.args.marks.now c.args.index _ collating c.requires) _ (omega (arith, n, w)) (sym c.if-begins_range.ensures.value)
    (get_or-map mark_of c.args.marks.now _ _ collating w) c.if-insert_range.ensures

pub returns-then-insert_mark : goal.returns-then-insert_mark
returns-then-insert_mark c =
    let n = length-map c.args.marks.now mark_of in
    adds_one (marks_of c.args.marks.now) c.args.index _ (get_or-map mark_of c.args.marks.now c.args.index _ collating c.requires) _ _ (omega (arith, n, c.requires)) (sym c.if-begins_range.ensures.value) c.if-insert_mark.ensures

pub returns-else-insert_mark : goal.returns-else-insert_mark
returns-else-insert_mark c =
    let n = length-map c.args.marks.now mark_of in
    refuses_one (marks_of c.args.marks.now) c.args.index _ (get_or-map mark_of c.args.marks.now c.args.index _ collating c.requires) (omega (arith, n, c.requires)) (sym c.if-begins_range.ensures.value) c.if-insert_mark.ensures
