-- What was made and written of the text of `wrong`. Working words of proofs.
use Rattle.std.specs.Prelude.{◌≡◌, ℕ, List, [], Option, Some}
use Rattle.std.specs.List.{AllZip}
use Rattle.cs_grammar.specs.Weights.{Weighed, Weighs, weighed}
use Rattle.cs_manifest.specs.Manifest.ByWork.{texts_of}
use Rattle.cs_manifest.specs.Manifest.Manifest.{Texts}
use Rattle.cs_wrong.specs.Classes.Classes.{behind}
use Rattle.cs_wrong.specs.Writing.Entries.{lines_from}
use Rattle.cs_wrong.specs.Slips.Slips.{slips}
use Rattle.cs_wrong.specs.Writing.Tally.{IsCounted, no_slips}
use Rattle.cs_wrong.specs.Writing.Text.{HaveLexemes, IsEntryOf, IsWeighedBy, IsWrongOf, SlipEntry}
use Rattle.cs_wrong.specs.declared.slips.slip.Slip.{Slip}
use Rattle.cs_wrong.specs.declared.writing.tally.Tally.{Tally}
use Rattle.cs_wrong.specs.declared.writing.writing.Making.{Making}
use Rattle.cs_wrong.specs.declared.writing.writing.Wrong.{Wrong}

-- what texts are made by, and the lexemes
abbrev pub texts_by : Wrong → Option Texts
texts_by d = Some (texts_of d.work.now)

abbrev pub lexemes_by : Wrong → Option (List (Option (List ℕ)))
lexemes_by d = Some d.work.now.lexemes.now

-- The text can be written: trees are measured as is asked, and the lexemes are those of the file's tokens.
pub record IsReady (d : Wrong) : Type 0 where
  pub weights : IsWeighedBy d.weigh d.yacc.now d.work.now d.weights.now
  pub lexemes : HaveLexemes d.yacc.now d.work.now

-- the grammar and how its trees are measured
abbrev pub weighed_in : Wrong → Weighed
weighed_in d = weighed d.yacc.now.grammar d.weights.now

-- the lists and the classes are made by these
pub record IsMakingOf (d : Wrong) (m : Making) : Type 0 where
  pub pairs : m.pairs.now ≡ weighed_in d
  pub recognizer : m.judging.recognizer.now ≡ d.yacc.now.grammar
  pub render : m.judging.render.now ≡ d.work.now
  pub weighs : Weighs d.weights.now d.yacc.now.grammar

-- the text that is asked for
abbrev pub IsAsked : Wrong → List ℕ → Type 0
IsAsked d text = IsWrongOf d.yacc.now d.work.now d.weigh d.chosen text

abbrev pub all_slips : Wrong → List Slip
all_slips d = slips d.yacc.now.grammar d.chosen

-- one entry for each of these slips behind others, in order
abbrev pub AreEntries : Wrong → List (List Slip × Slip) → List SlipEntry → Type 0
AreEntries d list entries = AllZip (IsEntryOf (weighed_in d) (texts_by d) (lexemes_by d)) list entries

-- the text is the lines of all slips
pub record IsBodyText (d : Wrong) (text : List ℕ) : Type 0 where
  pub entries : List SlipEntry
  pub are : AreEntries d (behind [] (all_slips d)) entries
  pub lines : text ≡ lines_from d.yacc.now 0 entries

-- whichever the entries are, they were counted
abbrev pub CountsAll : Wrong → Tally → Type 0
CountsAll d tally = (entries : List SlipEntry) → AreEntries d (behind [] (all_slips d)) entries → IsCounted entries no_slips tally
