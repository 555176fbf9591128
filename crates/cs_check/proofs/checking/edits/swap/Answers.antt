-- A token stands at the place, and another behind it.
use Rattle.std.proofs.Common.{arith}
use Rattle.cs_check.proofs.checking.edits.swap.Goals as goal

pub overflow_add-place : goal.overflow_add-place
overflow_add-place c = let low = c.in-Some.ensures c.args.at (omega arith) in omega arith

pub overflow_add-pair : goal.overflow_add-pair
overflow_add-pair c = let low = c.in-Some.ensures c.args.at (omega arith) in omega arith

pub offset_bounds-base-place : goal.offset_bounds-base-place
offset_bounds-base-place c = let low = c.in-Some.ensures c.args.at (omega arith) in omega arith

pub bounds-base-place : goal.bounds-base-place
bounds-base-place c = let low = c.in-Some.ensures c.args.at (omega arith) in omega arith

pub offset_bounds-base-place-2 : goal.offset_bounds-base-place-2
offset_bounds-base-place-2 c = let low = c.in-Some.ensures c.args.at (omega arith) in omega arith

pub bounds-base-place-2 : goal.bounds-base-place-2
bounds-base-place-2 c = let low = c.in-Some.ensures c.args.at (omega arith) in omega arith

pub patch-requires : goal.patch-requires
patch-requires c = let low = c.in-Some.ensures c.args.at (omega arith) in omega arith
