-- The lexemes of tokens, gathered.
use Rattle.std.specs.Prelude.{ℕ, List, Option}
use Rattle.cs_spell.specs.declared.texts.pieces.Gathered.{Gathered}
use Rattle.cs_spell.specs.declared.texts.pieces.Gathered.TheVariants.{All, Without}
use Rattle.cs_spell.specs.Texts.Pieces.{AreLexemesOf, values}
use Rattle.cs_texts.specs.Rendering.Rendering.{IsFirstWithout}

abbrev pub IsGathered : List (Option (List ℕ)) → List ℕ → Gathered → Type 0
IsGathered lexemes tokens (All pieces) = AreLexemesOf lexemes tokens (values pieces.items)
IsGathered lexemes tokens (Without token) = IsFirstWithout lexemes tokens token
