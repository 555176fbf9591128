-- What the code's parts of an accepted file are.
use Rattle.std.specs.Prelude.{◌≡◌, ℕ, List, Option, Some, None}
use Rattle.cs_yacc.specs.declared.reading.accepted.Accepted as code
use Rattle.cs_yacc.specs.declared.reading.spelling.Spelling.{Spelling}
use Rattle.cs_yacc.specs.declared.reading.name.TokenName.{TokenName}
use Rattle.cs_yacc.specs.Reading.Meaning.{Parts, number_in}
use Rattle.cs_yacc.specs.Reading.PartsView.{parts_in}
use Rattle.cs_yacc.specs.Reading.SpellingView.{spelling_of}

abbrev pub parts_at : code.Accepted → Parts
parts_at f = parts_in f.parts.now

-- the spellings of its items
abbrev pub words_at : code.Accepted → List TokenName
words_at f = f.parts.now.words.now

-- the number is that of the left side, if there is one
abbrev pub IsNumbered : code.Accepted → Option (Spelling × ℕ) → Type 0
IsNumbered f None = Unit {0}
IsNumbered f (Some p) = p.1 ≡ number_in f.parts.now.lefts (spelling_of p.0)
