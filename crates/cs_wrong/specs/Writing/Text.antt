-- The text of `wrong`: of the slips of a grammar those whose lists are outside the language for sure, and how many slips there are
-- of each class.
use Rattle.std.specs.Prelude.{◌≡◌, ◌≢◌, ℕ, ◌+◌, All, Any, Bool, List, [], ◌∷◌, ◌++◌, Option, Some, codes, count_by, length, map}
use Rattle.std.specs.List.{AllPairs, AllZip, filter}
use Rattle.cs_bytes.specs.Names.{space}
use Rattle.cs_choices.specs.declared.weigh.Weigh.{Weigh}
use Rattle.cs_grammar.specs.Sentence.{IsSentence}
use Rattle.cs_grammar.specs.Weights.{Measure, Weighed, weighed}
use Rattle.cs_io.specs.Asked.{IsNotWithout, IsOne}
use Rattle.cs_manifest.specs.Manifest.Lines.{pair_words, text_lines, tokens_line}
use Rattle.cs_manifest.specs.Manifest.ByWork.{texts_of}
use Rattle.cs_manifest.specs.Manifest.Manifest.{AreLexemesBy, IsRenderedIf, Texts, measure_of}
use Rattle.cs_manifest.specs.Output.Words.{line, numbered_word, with_numbers}
use Rattle.cs_scanner.specs.Lexeme.Lexeme.{AreLexemes}
use Rattle.cs_scanner.specs.Scan.Compared.{scanning}
use Rattle.cs_texts.specs.Rendering.Rendering.{Rendering}
use Rattle.cs_texts.specs.declared.rendering.render_work.RenderWork.{RenderWork}
use Rattle.cs_yacc.specs.Reading.File.{File}
use Rattle.cs_wrong.specs.Classes.Classes.{IsOutsideForSure, IsTold, behind, is_again, is_large, is_long, is_nothing, is_sentence, is_wrong}
use Rattle.cs_wrong.specs.Slips.Lists.{IsListOf}
use Rattle.cs_wrong.specs.Slips.Slips.{IsSlip, slips}
use Rattle.cs_wrong.specs.declared.classes.class.SlipClass.{SlipClass}
use Rattle.cs_wrong.specs.declared.classes.class.SlipClass.TheVariants.{Nothing, Large, Again, Pair, Long, Sentence, Outside}
use Rattle.cs_wrong.specs.declared.slips.slip.Change.{Change}
use Rattle.cs_wrong.specs.declared.slips.slip.Change.TheVariants.{Drop, Double, Swap}
use Rattle.cs_choices.specs.declared.slips.Slips.{Slips}
use Rattle.cs_wrong.specs.declared.slips.slip.Slip.{Slip}
use Rattle.cs_wrong.specs.declared.slips.slip.Slip.TheVariants.{Empty, Of}

-- ---- entries

-- a slip, its class and its list; and where that is written, what came of its rendering
pub record SlipEntry : Type 0 where
  pub slip : Slip
  pub class : SlipClass
  pub tokens : List ℕ
  pub rendered : Option Rendering

-- the entry of a slip that stands behind earlier ones
pub record IsEntryOf (of : Weighed) (texts : Option Texts) (lexemes : Option (List (Option (List ℕ)))) (placed : List Slip × Slip) (entry : SlipEntry) : Type 0 where
  pub is_of : entry.slip ≡ placed.1
  pub told : IsTold of placed.0 placed.1 entry.class entry.tokens
  pub text : IsRenderedIf (is_wrong entry.class) texts lexemes entry.tokens entry.rendered

-- one entry for each slip, in order
abbrev pub AreEntriesOf : Weighed → Option Texts → Option (List (Option (List ℕ))) → List Slip → List SlipEntry → Type 0
AreEntriesOf of texts lexemes list entries = AllZip (IsEntryOf of texts lexemes) (behind [] list) entries

-- ---- lines

-- those whose lists are written
abbrev pub wrong_ones : List SlipEntry → List SlipEntry
wrong_ones entries = filter (λ e. is_wrong e.class) entries

abbrev pub change_words : Change → List ℕ
change_words (Drop i) = numbered_word (codes " drop ") i
change_words (Double i) = numbered_word (codes " double ") i
change_words (Swap i) = numbered_word (codes " swap ") i

-- ` empty`, or ` rule R` and the change
abbrev pub slip_words : Slip → List ℕ
slip_words Empty = codes " empty"
slip_words (Of r change) = numbered_word (codes " rule ") r ++ change_words change

-- ` pair A B at K` or ` outside`
abbrev pub class_words : File → SlipClass → List ℕ
class_words file (Pair left right at) = space ∷ pair_words file left right ++ numbered_word (codes " at ") at
class_words file Outside = codes " outside"
class_words file Nothing = []
class_words file Large = []
class_words file Again = []
class_words file Long = []
class_words file Sentence = []

-- `wrong N`, the slip and its class, the list and what came of its rendering
abbrev pub wrong_lines : File → ℕ → SlipEntry → List ℕ
wrong_lines file number e =
    line (numbered_word (codes "wrong ") number ++ slip_words e.slip ++ class_words file e.class)
    ++ tokens_line file e.tokens ++ text_lines file e.rendered

-- how many slips have such a class
abbrev pub many_with : (SlipClass → Bool) → List SlipEntry → ℕ
many_with test entries = count_by (λ e. test e.class) entries

-- how many slips there are, and of each class
abbrev pub wrong_end : List SlipEntry → List ℕ
wrong_end entries =
    line
    (numbered_word (codes "end slips ") (length entries) ++ numbered_word (codes " none ") (many_with is_nothing entries)
    ++ numbered_word (codes " large ") (many_with is_large entries) ++ numbered_word (codes " again ") (many_with is_again entries)
    ++ numbered_word (codes " long ") (many_with is_long entries) ++ numbered_word (codes " sentences ") (many_with is_sentence entries)
    ++ numbered_word (codes " wrong ") (many_with is_wrong entries))

abbrev pub wrong_text : File → List SlipEntry → List ℕ
wrong_text file entries = line (codes "conform wrong") ++ with_numbers (wrong_lines file) (wrong_ones entries) ++ wrong_end entries

-- the counts behind `slips` add up to it
abbrev pub AddsUp : List SlipEntry → Type 0
AddsUp entries =
    length entries
    ≡ many_with is_nothing entries + many_with is_large entries + many_with is_again entries + many_with is_long entries
    + many_with is_sentence entries + many_with is_wrong entries

-- ---- the text

-- the grammar of the file, and how its trees are measured with these lexemes
abbrev pub weighed_by : Weigh → File → Option (List (Option (List ℕ))) → Weighed
weighed_by weigh file lexemes = weighed file.grammar (measure_of weigh file.grammar.tokens lexemes)

-- The text is that of `wrong` for the file, with the chosen kinds of slips.
pub record IsWrongText (file : File) (texts : Option Texts) (weigh : Weigh) (chosen : Slips) (text : List ℕ) : Type 0 where
  pub lexemes : Option (List (Option (List ℕ)))
  pub entries : List SlipEntry
  pub are_lexemes : AreLexemesBy texts file.grammar.tokens lexemes
  pub slips : AreEntriesOf (weighed_by weigh file lexemes) texts lexemes (slips file.grammar chosen) entries
  pub lines : text ≡ wrong_text file entries

-- ---- the text by what it is made by

-- the lexemes are those of the file's tokens
abbrev pub HaveLexemes : File → RenderWork → Type 0
HaveLexemes file work = AreLexemes (scanning work.scanner.now) file.grammar.tokens work.lexemes.now

-- the weights are those of what sizes count
abbrev pub IsWeighedBy : Weigh → File → RenderWork → Measure → Type 0
IsWeighedBy weigh file work weights = weights ≡ measure_of weigh file.grammar.tokens (Some work.lexemes.now)

abbrev pub IsWrongOf : File → RenderWork → Weigh → Slips → List ℕ → Type 0
IsWrongOf file work weigh chosen text = IsWrongText file (Some (texts_of work)) weigh chosen text

-- ---- laws

-- no list that is written is a sentence
abbrev pub AreNoSentences : File → List SlipEntry → Type 0
AreNoSentences file entries = All (λ e. IsSentence file.grammar e.tokens → ⊥) (wrong_ones entries)

-- in none of the file's texts
abbrev pub WritesNoSentence : File → Slips → Type 0
WritesNoSentence file chosen =
    (texts : Option Texts) (weigh : Weigh) (text : List ℕ) → (is : IsWrongText file texts weigh chosen text) → AreNoSentences file is.entries

-- the list of some slip is written
abbrev pub IsAmong : List SlipEntry → List ℕ → Type 0
IsAmong entries list = Any (λ e. e.tokens ≡ list) (wrong_ones entries)

-- each list of a slip that is outside the language for sure is written, and none is written twice
pub record AreEachOnce (of : Weighed) (chosen : Slips) (entries : List SlipEntry) : Type 0 where
  pub once : AllPairs (λ a b. a ≢ b) (map (λ e. e.tokens) (wrong_ones entries))
  pub all : (slip : Slip) (list : List ℕ) → IsSlip of.grammar chosen slip → IsListOf of slip list → IsOutsideForSure of.grammar list → IsAmong entries list

abbrev pub WritesEachOnce : File → Slips → Type 0
WritesEachOnce file chosen =
    (texts : Option Texts) (weigh : Weigh) (text : List ℕ) → (is : IsWrongText file texts weigh chosen text) → AreEachOnce (weighed_by weigh file is.lexemes) chosen is.entries

abbrev pub HasOneWrongText : File → Slips → Type 0
HasOneWrongText file chosen = (texts : Option Texts) (weigh : Weigh) → IsOne (IsWrongText file texts weigh chosen)

abbrev pub HasSomeWrongText : File → Slips → Type 0
HasSomeWrongText file chosen = (texts : Option Texts) (weigh : Weigh) → IsNotWithout (IsWrongText file texts weigh chosen)
