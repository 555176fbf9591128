-- The marks so far, one a token.
use Rattle.std.proofs.Common.{◌≡◌, length}
use Rattle.cs_texts.specs.Splice.Apart.{MarkApart}
use Rattle.cs_texts.proofs.splice.apart.Apart.new.Given as goal

abbrev pub invariant-loop-place : goal.invariant-loop-place
invariant-loop-place l = record {
  all : length l.marks.items ≡ l.place;
  apart : MarkApart l.work l.marks.items;
}
