use Rattle.std.proofs.Common.{◌≡◌, ◌⊎◌, length, take}
use Rattle.std.specs.Prelude.{IsTrue}
use Rattle.cs_lexical.specs.Least.{lists}
use Rattle.cs_lexical.specs.Noting.{AreRows, NotesRows}
use Rattle.cs_lexical.proofs.noting.note_rows.Given as goal

abbrev pub invariant-loop-rule : goal.invariant-loop-rule
invariant-loop-rule l = record {
  notes : NotesRows l.number (take l.rule-index l.rules) l.rules (lists l.initial.rows) (lists l.rows);
  are : AreRows (length l.initial.rows) (lists l.rows);
  told : IsTrue l.new ⊎ (lists l.rows ≡ lists l.initial.rows);
}
