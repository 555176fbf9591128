-- Bytes mean one file or are refused with one error, and not both.
use Rattle.std.specs.Prelude.{◌≡◌, ◌⊎◌, ℕ, List}
use Rattle.cs_yacc.specs.Reading.File as tokens
use Rattle.cs_lex.specs.declared.reading.error.LexError.{LexError}
use Rattle.cs_lex.specs.Reading.File.{File}
use Rattle.cs_lex.specs.Reading.Reading.{IsLexFile, Refuses}

abbrev pub MeanOneFile : List ℕ → tokens.File → Type 0
MeanOneFile bytes yacc = (f g : File) → tokens.IsFile yacc → IsLexFile bytes yacc f → IsLexFile bytes yacc g → f ≡ g

abbrev pub AreRefusedOnce : List ℕ → Type 0
AreRefusedOnce bytes = (e f : LexError) → Refuses e bytes → Refuses f bytes → e ≡ f

abbrev pub AreNotAcceptedWhereRefused : List ℕ → tokens.File → Type 0
AreNotAcceptedWhereRefused bytes yacc = (f : File) (e : LexError) → Refuses e bytes → IsLexFile bytes yacc f → ⊥

-- The bytes mean a file beside the yacc file, or are refused with an error.
abbrev pub IsAcceptedOrRefused : List ℕ → tokens.File → Type 0
IsAcceptedOrRefused bytes yacc = ((f : File) × IsLexFile bytes yacc f) ⊎ ((e : LexError) × Refuses e bytes)
