-- The lines of spellings.
use Rattle.std.specs.Prelude.{ℕ, List, ◌∷◌, ◌++◌, codes, count_by, length}
use Rattle.cs_bytes.specs.Names.{space}
use Rattle.cs_manifest.specs.Writer.Below.{derive_below, text_below}
use Rattle.cs_manifest.specs.Output.Names.{token_of, tokens_below}
use Rattle.cs_manifest.specs.Output.Words.{line, numbered_word, with_numbers}
use Rattle.cs_spell.specs.Telling.Told.{Showing, Told, Shadowed, Foreign, Literal, Infeasible, Large, Shown, is_foreign, is_infeasible, is_large, is_literal, is_shadowed, is_shown}
use Rattle.cs_spell.specs.declared.texts.way.Way.{Way}
use Rattle.cs_spell.specs.declared.texts.way.Way.TheVariants.{Gives, Skips}
use Rattle.cs_yacc.specs.Reading.File.{File}

-- ` token NAME goal G size S at K` or ` skip goal G size S`
abbrev pub goal_words : ℕ → ℕ → List ℕ
goal_words rule size = numbered_word (codes " goal ") rule ++ numbered_word (codes " size ") size

abbrev pub way_words : File → Way → ℕ → ℕ → List ℕ
way_words file (Gives token place) rule size =
    codes " token" ++ (space ∷ token_of file token) ++ goal_words rule size ++ numbered_word (codes " at ") place
way_words file Skips rule size = codes " skip" ++ goal_words rule size

-- these, and the lines of the derivation, the tokens and the text below
abbrev pub showing_lines : File → Showing → List ℕ
showing_lines file s =
    way_words file s.way s.rule s.size ++ derive_below s.derivation ++ tokens_below file s.tokens ++ text_below file s.rendering

abbrev pub told_lines : File → Told → List ℕ
told_lines file Shadowed = line (codes " shadowed")
told_lines file Foreign = line (codes " foreign")
told_lines file Literal = line (codes " literal")
told_lines file Infeasible = line (codes " infeasible")
told_lines file Large = line (codes " large")
told_lines file (Shown showing) = showing_lines file showing

-- `spelling R` and what is told of scanner rule R
abbrev pub spelling_lines : File → ℕ → Told → List ℕ
spelling_lines file rule told = numbered_word (codes "spelling ") rule ++ told_lines file told

-- how many rules there are, and how many of each kind
abbrev pub end_line : List Told → List ℕ
end_line told =
    line
    (numbered_word (codes "end rules ") (length told) ++ numbered_word (codes " spelled ") (count_by is_shown told)
    ++ numbered_word (codes " shadowed ") (count_by is_shadowed told) ++ numbered_word (codes " foreign ") (count_by is_foreign told)
    ++ numbered_word (codes " literal ") (count_by is_literal told) ++ numbered_word (codes " infeasible ") (count_by is_infeasible told)
    ++ numbered_word (codes " large ") (count_by is_large told))

abbrev pub spell_text : File → List Told → List ℕ
spell_text file told = line (codes "conform spell") ++ with_numbers (spelling_lines file) told ++ end_line told
