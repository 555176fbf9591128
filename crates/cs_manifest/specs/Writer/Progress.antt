-- What contracts see of a manifest.
use Rattle.std.specs.Prelude.{ℕ, List, MatchResult, Option, Result}
use Rattle.cs_io.specs.Faults.{next_count}
use Rattle.cs_io.specs.Lines.{IsCutShort, IsWritten}
use Rattle.cs_io.specs.declared.sink.Sink as Sink
use Rattle.cs_io.specs.declared.sink.SinkError.{SinkError}
use Rattle.cs_yacc.specs.Reading.File.{File}
use Rattle.cs_manifest.specs.declared.manifest.counts.Counts.{Counts}
use Rattle.cs_manifest.specs.declared.writer.entry.Entry.{Entry}
use Rattle.cs_manifest.specs.declared.writer.entry.Entry.TheVariants.{Goal, Case, Shared, Base, Negative, Filled}
use Rattle.cs_manifest.specs.declared.manifest.head.Head.{Head}
use Rattle.cs_manifest.specs.Manifest.Counts.{counts_of_head, with_case, with_lines, with_shared_verdict, with_verdict}
use Rattle.cs_manifest.specs.Writer.Entry.{lines_of}
use Rattle.cs_manifest.specs.Manifest.Head.{yacc_of, head_of, lexemes_of, first_cases, sharing_of}

-- its head, and the counts of what was written so far
pub record Progress : Type 0 where
  pub file : File
  pub lexemes : Option (List (Option (List ℕ)))
  pub counts : Counts

-- behind the head
abbrev pub begun : Head → Progress
begun head = record {
  file = yacc_of head;
  lexemes = lexemes_of head;
  counts = record (counts_of_head (head_of head)) { cases = first_cases (sharing_of head) };
}

-- the lines of an entry
abbrev pub lines_in : Progress → Entry → List ℕ
lines_in progress entry = lines_of progress.file entry

-- with one more entry, its lines not yet
abbrev pub with_entry : Counts → Entry → Counts
with_entry counts (Goal number goal verdict tokens rendered) = with_verdict counts verdict.now
with_entry counts (Case number size derivation tokens rendered) = with_case counts
with_entry counts (Shared number goal verdict) = with_shared_verdict counts verdict
with_entry counts (Base number goal) = counts
with_entry counts (Negative numbered) = record counts { negatives = next_count counts.negatives }
with_entry counts (Filled negative) = record counts { negatives = next_count counts.negatives }

-- behind one more entry
abbrev pub behind_entry : File → Counts → Entry → Counts
behind_entry file counts entry = with_lines (with_entry counts entry) (lines_of file entry)

-- the manifest behind one more entry
abbrev pub behind : Progress → Entry → Progress
behind progress entry = record progress { counts = behind_entry progress.file progress.counts entry }

module _ {S : Type 0} (g : Sink.Ghosts S) where
  -- The answer says what the writing of these lines did to a sink: it took them whole, or a prefix of them and had no room for all.
  abbrev pub TellsLines : {A : Type 0} → Result A SinkError → List ℕ → S → S → Type 0
  TellsLines result lines old new = MatchResult result (λ _. IsWritten g lines old new) (λ _. IsCutShort g lines old new)
