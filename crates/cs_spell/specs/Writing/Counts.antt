-- The end line by its counts.
use Rattle.std.specs.Prelude.{◌≡◌, ℕ, List, ◌++◌, codes, count_by, length}
use Rattle.cs_manifest.specs.Output.Words.{line, numbered_word}
use Rattle.cs_spell.specs.Telling.Told.{Told, is_foreign, is_infeasible, is_large, is_literal, is_shadowed, is_shown}
use Rattle.cs_spell.specs.declared.writing.counting.Counts.{Counts}

abbrev pub end_of : Counts → List ℕ
end_of c =
    line
    (numbered_word (codes "end rules ") c.rules ++ numbered_word (codes " spelled ") c.shown
    ++ numbered_word (codes " shadowed ") c.shadowed ++ numbered_word (codes " foreign ") c.foreign
    ++ numbered_word (codes " literal ") c.literal ++ numbered_word (codes " infeasible ") c.infeasible
    ++ numbered_word (codes " large ") c.large)

-- how many there are of each
pub record AreCounts (told : List Told) (c : Counts) : Type 0 where
  pub rules : c.rules ≡ length told
  pub shown : c.shown ≡ count_by is_shown told
  pub shadowed : c.shadowed ≡ count_by is_shadowed told
  pub foreign : c.foreign ≡ count_by is_foreign told
  pub literal : c.literal ≡ count_by is_literal told
  pub infeasible : c.infeasible ≡ count_by is_infeasible told
  pub large : c.large ≡ count_by is_large told
