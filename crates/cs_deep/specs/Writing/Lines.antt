-- Entries of edits whose lines can be put. Working words of proofs.
use Rattle.std.specs.Prelude.{◌≤◌, ◌+◌, ℕ, List, [], ◌++◌, Result, codes, if◌then◌else◌, length}
use Rattle.cs_deep.specs.Edits.Classes.{is_outside}
use Rattle.cs_deep.specs.Writing.Deep.{EditEntry, deep_lines, edit_lines}
use Rattle.cs_deep.specs.declared.writing.tally.Tally.{Tally}
use Rattle.cs_io.specs.Faults.{greatest}
use Rattle.cs_io.specs.Lines.{Writes}
use Rattle.cs_io.specs.declared.sink.Sink as Sink
use Rattle.cs_io.specs.declared.sink.SinkError.{SinkError}
use Rattle.cs_manifest.specs.Manifest.Named.{AreNamedRenderings, IsNamedEdit}
use Rattle.cs_manifest.specs.Output.Names.{AreNamedTokens}
use Rattle.cs_manifest.specs.Output.Putting.{Puts}
use Rattle.cs_manifest.specs.Output.Words.{line, numbered_word}
use Rattle.cs_manifest.specs.declared.output.output.Output.{Output}
use Rattle.cs_yacc.specs.Reading.File.{File}

-- all numbers of tokens in it are of the file
pub record IsNamedEntry (file : File) (entry : EditEntry) : Type 0 where
  pub edit : IsNamedEdit file entry.edit
  pub tokens : AreNamedTokens file entry.tokens
  pub text : AreNamedRenderings file entry.rendered

-- no class has more edits than there are
pub record IsWithin (t : Tally) : Type 0 where
  pub negatives : t.negatives ≤ t.edits
  pub deep : t.deep ≤ t.edits
  pub sentences : t.sentences ≤ t.edits
  pub long : t.long ≤ t.edits

-- these edits can be counted
pub record CanCount (t : Tally) (entries : List EditEntry) : Type 0 where
  pub within : IsWithin t
  pub few : t.edits + length entries ≤ greatest

-- the lines of an edit, where it is written
abbrev pub lines_if_outside : File → ℕ → ℕ → EditEntry → List ℕ
lines_if_outside file base number entry = if is_outside entry.class then deep_lines file base number entry else []

-- the end, by a tally
abbrev pub end_with : ℕ → Tally → List ℕ
end_with many tally =
    line
    (numbered_word (codes "end bases ") many ++ numbered_word (codes " edits ") tally.edits
    ++ numbered_word (codes " negatives ") tally.negatives ++ numbered_word (codes " deep ") tally.deep
    ++ numbered_word (codes " sentences ") tally.sentences ++ numbered_word (codes " long ") tally.long)

module _ {S : Type 0} (g : Sink.Ghosts S) where
  -- the lines of edits of a base were written, or that was cut short
  abbrev pub WritesEdits : Result Unit SinkError → File → ℕ → Tally → List EditEntry → S → S → Type 0
  WritesEdits result file base tally entries old new = Writes g result (edit_lines file base tally.deep entries) old new

  -- they were put
  abbrev pub PutsEdits : File → ℕ → Tally → List EditEntry → Output S → Output S → Type 0
  PutsEdits file base tally entries old new = Puts g (edit_lines file base tally.deep entries) old new
