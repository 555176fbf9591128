-- The names and the lexemes of all tokens, as lines have them.
use Rattle.std.specs.Prelude.{◌≡◌, ℕ, List, ◌∷◌, Option, map, option_map}
use Rattle.cs_bytes.specs.Names.{space}
use Rattle.cs_yacc.specs.declared.reading.name.TokenName.{TokenName}
use Rattle.cs_yacc.specs.Reading.File.{File}
use Rattle.cs_manifest.specs.Output.Names.{token_text}
use Rattle.cs_manifest.specs.Filling.Open.{between_quotes}

-- a token's name behind a space
abbrev pub spaced_name : TokenName → List ℕ
spaced_name name = space ∷ token_text name

-- the names of all tokens in their order, each behind a space
abbrev pub AreNames : File → List (List ℕ) → Type 0
AreNames file names = names ≡ map spaced_name file.token_names

-- their lexemes in that order, where they have one, as they stand between quotes
abbrev pub AreQuoted : List (Option (List ℕ)) → List (Option (List ℕ)) → Type 0
AreQuoted lexemes texts = texts ≡ map (option_map between_quotes) lexemes
