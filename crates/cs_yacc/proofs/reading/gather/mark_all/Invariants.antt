use Rattle.std.proofs.Common.{◌≡◌, take, length}
use Rattle.cs_yacc.specs.Reading.Marks.{MarksAt}
use Rattle.cs_yacc.proofs.reading.gather.mark_all.Given as goal

abbrev pub invariant-loop-place : goal.invariant-loop-place
invariant-loop-place l =
    (length l.marks.items ≡ length l.fn.marks.items) × MarksAt l.fn.marks.items l.marks.items (take l.place-index l.places)
