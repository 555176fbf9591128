-- How lines are put. Working words of proofs.
use Rattle.std.specs.Prelude.{ℕ, All, List, ◌++◌, codes}
use Rattle.cs_manifest.specs.Output.Words.{line, with_numbers}
use Rattle.cs_spell.specs.Writing.Counts.{end_of}
use Rattle.cs_spell.specs.Telling.Lines.{spell_text, spelling_lines}
use Rattle.cs_spell.specs.Telling.Seen.{all_told, showing_of, told_of}
use Rattle.cs_spell.specs.Telling.Telling.{IsNamedShowing, IsNamedTold}
use Rattle.cs_spell.specs.declared.writing.counting.Counts.{Counts}
use Rattle.cs_spell.specs.declared.telling.told.Shown.{Shown}
use Rattle.cs_spell.specs.declared.telling.told.Told.{Told}
use Rattle.cs_yacc.specs.Reading.File.{File}

abbrev pub IsNamedShown : File → Shown → Type 0
IsNamedShown file shown = IsNamedShowing file (showing_of shown)

abbrev pub IsNamed : File → Told → Type 0
IsNamed file told = IsNamedTold file (told_of told)

abbrev pub AreNamed : File → List Told → Type 0
AreNamed file told = All (IsNamed file) told

abbrev pub told_text : File → ℕ → Told → List ℕ
told_text file number told = spelling_lines file number (told_of told)

abbrev pub spell_text_of : File → List Told → Counts → List ℕ
spell_text_of file told counts = line (codes "conform spell") ++ with_numbers (told_text file) told ++ end_of counts

-- the text with its own counts
abbrev pub told_lines_of : File → List Told → List ℕ
told_lines_of file told = spell_text file (all_told told)
