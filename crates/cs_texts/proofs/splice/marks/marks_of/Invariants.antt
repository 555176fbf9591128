-- The scan so far, what settles it, and the marks of the tokens that it gave.
use Rattle.std.proofs.Common.{◌≤◌, ◌-◌, length, take}
use Rattle.cs_scanner.specs.Scan.Compared.{scanning}
use Rattle.cs_texts.specs.Splice.Marks.{AreMarks, IsFront}
use Rattle.cs_texts.proofs.splice.marks.marks_of.Given as goal

abbrev pub invariant-matches : goal.invariant-matches
invariant-matches l = record {
  few : length l.marks.items ≤ length l.tokens;
  front : IsFront (scanning l.scanner) l.text (take (length l.marks.items) l.tokens) l.at l.read;
  marks : AreMarks (scanning l.scanner) l.text l.tokens l.marks.items;
}

abbrev pub decreases-matches : goal.decreases-matches
decreases-matches l = length l.text - l.at
