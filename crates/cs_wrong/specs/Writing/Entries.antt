-- Entries of slips whose lines can be put. Working words of proofs.
use Rattle.std.specs.Prelude.{◌+◌, ℕ, List, [], codes, if◌then◌else◌}
use Rattle.cs_manifest.specs.Manifest.Named.{AreNamedRenderings}
use Rattle.cs_manifest.specs.Output.Names.{AreNamedTokens, IsNamedMark}
use Rattle.cs_manifest.specs.Output.Words.{line, numbered_from}
use Rattle.cs_wrong.specs.Classes.Classes.{is_wrong}
use Rattle.cs_wrong.specs.Writing.Text.{SlipEntry, wrong_lines, wrong_ones}
use Rattle.cs_wrong.specs.declared.classes.class.SlipClass.{SlipClass}
use Rattle.cs_wrong.specs.declared.classes.class.SlipClass.TheVariants.{Nothing, Large, Again, Pair, Long, Sentence, Outside}
use Rattle.cs_wrong.specs.declared.writing.tally.Tally.{Tally}
use Rattle.cs_yacc.specs.Reading.File.{File}

-- the marks of a pair are of the file
abbrev pub IsNamedClass : File → SlipClass → Type 0
IsNamedClass file (Pair left right at) = IsNamedMark file left × IsNamedMark file right
IsNamedClass file Nothing = Unit {0}
IsNamedClass file Large = Unit {0}
IsNamedClass file Again = Unit {0}
IsNamedClass file Long = Unit {0}
IsNamedClass file Sentence = Unit {0}
IsNamedClass file Outside = Unit {0}

-- all numbers of tokens in it are
pub record IsNamedEntry (file : File) (entry : SlipEntry) : Type 0 where
  pub class : IsNamedClass file entry.class
  pub tokens : AreNamedTokens file entry.tokens
  pub text : AreNamedRenderings file entry.rendered

abbrev pub head_line : List ℕ
head_line = line (codes "conform wrong")

-- the lines of a slip, where its list is written
abbrev pub lines_if_wrong : File → ℕ → SlipEntry → List ℕ
lines_if_wrong file number entry = if is_wrong entry.class then wrong_lines file number entry else []

-- the lines of slips, where so many were written before them
abbrev pub lines_from : File → ℕ → List SlipEntry → List ℕ
lines_from file many entries = numbered_from (many + 1) (wrong_lines file) (wrong_ones entries)

-- and where these slips were counted before them
abbrev pub lines_by : File → Tally → List SlipEntry → List ℕ
lines_by file tally entries = lines_from file tally.wrong entries
