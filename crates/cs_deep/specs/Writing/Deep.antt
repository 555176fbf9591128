-- The text of `deep`: the edits of a suite's bases that hold no poisoned pair and are outside the language all the same.
use Rattle.std.specs.Prelude.{◌≡◌, ℕ, ◌+◌, List, [], ◌∷◌, ◌++◌, codes, count_by, if◌then◌else◌, length, Option, None}
use Rattle.std.specs.List.{AllZip, filter, flat_map}
use Rattle.cs_bytes.specs.Names.{space}
use Rattle.cs_deep.specs.Edits.Classes.{IsClass, is_long, is_negative, is_outside, is_sentence}
use Rattle.cs_deep.specs.declared.edits.class.EditClass.{EditClass}
use Rattle.cs_goals.specs.Goals.{goals}
use Rattle.cs_grammar.specs.Grammar.{PlainGrammar}
use Rattle.cs_manifest.specs.Manifest.Lines.{base_line, edit_text, text_lines, tokens_line}
use Rattle.cs_manifest.specs.Manifest.Manifest.{AreLexemesBy, Choice, EntriesOf, GoalEntry, IsRenderedIf, Texts, bases, most_bases, weighed_by}
use Rattle.cs_manifest.specs.Output.Words.{line, numbered_from, numbered_word}
use Rattle.cs_mutate.specs.Edit.{edited}
use Rattle.cs_mutate.specs.Edits.{edits}
use Rattle.cs_mutate.specs.declared.edit.Edit.{Edit}
use Rattle.cs_texts.specs.Rendering.Rendering.{Rendering}
use Rattle.cs_yacc.specs.Reading.File.{File}

-- an edit of a base, and its class; where that is outside, the edited list and what came of its rendering
pub record EditEntry : Type 0 where
  pub edit : Edit
  pub class : EditClass
  pub tokens : List ℕ
  pub rendered : Option Rendering

-- a base, the number of its first goal, and all its edits
pub record DeepBase : Type 0 where
  pub goal : ℕ
  pub edits : List EditEntry

-- the entry of an edit of a base
pub record IsEditOf (g : PlainGrammar) (texts : Option Texts) (lexemes : Option (List (Option (List ℕ)))) (base : List ℕ) (edit : Edit) (entry : EditEntry) : Type 0 where
  pub is_of : entry.edit ≡ edit
  pub class : IsClass g base edit entry.class
  pub tokens : entry.tokens ≡ (if is_outside entry.class then edited base edit else [])
  pub text : IsRenderedIf (is_outside entry.class) texts lexemes (edited base edit) entry.rendered

-- one entry for each of these edits, in order
abbrev pub AreEditsOf : PlainGrammar → Option Texts → Option (List (Option (List ℕ))) → List ℕ → List Edit → List EditEntry → Type 0
AreEditsOf g texts lexemes base list entries = AllZip (IsEditOf g texts lexemes base) list entries

-- the entry of a base: all its edits by the chosen operators
pub record IsDeepBaseOf (g : PlainGrammar) (choice : Choice) (lexemes : Option (List (Option (List ℕ)))) (base : ℕ × List ℕ) (entry : DeepBase) : Type 0 where
  pub goal : entry.goal ≡ base.0
  pub edits : AreEditsOf g choice.texts lexemes base.1 (edits g.tokens base.1 choice.operators) entry.edits

-- ---- the lines

-- those of class outside, which are written
abbrev pub outside : List EditEntry → List EditEntry
outside entries = filter (λ e. is_outside e.class) entries

-- `deep K base B EDIT`, the edited list and what came of its rendering
abbrev pub deep_lines : File → ℕ → ℕ → EditEntry → List ℕ
deep_lines file base number entry =
    line (numbered_word (codes "deep ") number ++ numbered_word (codes " base ") base ++ space ∷ edit_text file entry.edit)
    ++ tokens_line file entry.tokens ++ text_lines file entry.rendered

-- the lines of edits of a base, where so many were written before them
abbrev pub edit_lines : File → ℕ → ℕ → List EditEntry → List ℕ
edit_lines file base many entries = numbered_from (many + 1) (deep_lines file base) (outside entries)

-- the lines of bases, where so many bases stand before them; the edits that are written are numbered through all bases
abbrev pub deep_base_lines : File → ℕ → ℕ → List DeepBase → List ℕ
deep_base_lines file many number [] = []
deep_base_lines file many number (base ∷ rest) =
    base_line (number + 1) base.goal ++ edit_lines file (number + 1) many base.edits
    ++ deep_base_lines file (many + length (outside base.edits)) (number + 1) rest

-- the edits of all bases
abbrev pub all_edits : List DeepBase → List EditEntry
all_edits bases = flat_map (λ b. b.edits) bases

-- the end, with how many bases there are, how many edits, and how many of each class
abbrev pub deep_end : ℕ → List EditEntry → List ℕ
deep_end many entries =
    line
    (numbered_word (codes "end bases ") many ++ numbered_word (codes " edits ") (length entries)
    ++ numbered_word (codes " negatives ") (count_by (λ e. is_negative e.class) entries)
    ++ numbered_word (codes " deep ") (count_by (λ e. is_outside e.class) entries)
    ++ numbered_word (codes " sentences ") (count_by (λ e. is_sentence e.class) entries)
    ++ numbered_word (codes " long ") (count_by (λ e. is_long e.class) entries))

abbrev pub deep_text : File → List DeepBase → List ℕ
deep_text file bases = line (codes "conform deep") ++ deep_base_lines file 0 0 bases ++ deep_end (length bases) (all_edits bases)

-- the counts behind `edits` add up to it
abbrev pub AddsUp : List EditEntry → Type 0
AddsUp entries =
    length entries
    ≡ count_by (λ e. is_negative e.class) entries + count_by (λ e. is_outside e.class) entries
    + count_by (λ e. is_sentence e.class) entries + count_by (λ e. is_long e.class) entries

-- the bases that a suite by the choice has
abbrev pub bases_by : Choice → List GoalEntry → List (ℕ × List ℕ)
bases_by choice entries = bases (most_bases choice) entries

-- The text is that of `deep` by the choice: of the bases of a suite by it, all edits. Goals have no texts of their own here.
pub record IsDeepText (choice : Choice) (file : File) (text : List ℕ) : Type 0 where
  pub lexemes : Option (List (Option (List ℕ)))
  pub entries : List GoalEntry
  pub bases : List DeepBase
  pub are_lexemes : AreLexemesBy choice.texts file.grammar.tokens lexemes
  pub verdicts : EntriesOf (weighed_by choice file lexemes) None None (goals file.grammar choice.criteria) entries
  pub edits : AllZip (IsDeepBaseOf file.grammar choice lexemes) (bases_by choice entries) bases
  pub lines : text ≡ deep_text file bases
