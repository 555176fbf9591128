use Rattle.std.proofs.Common.{◌≡◌, ◌⊎◌, take}
use Rattle.std.specs.Prelude.{IsTrue}
use Rattle.cs_lexical.specs.Noting.{NotesRow}
use Rattle.cs_lexical.proofs.noting.note_row.Given as goal

abbrev pub invariant-loop-other : goal.invariant-loop-other
invariant-loop-other l = record {
  notes : NotesRow l.rule l.number (take l.other-index l.rules) l.initial.row l.row;
  told : IsTrue l.new ⊎ (l.row ≡ l.initial.row);
}
