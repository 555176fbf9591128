-- What the lex reader and the automaton take.
use Rattle.std.specs.Prelude.{ℕ, List}
use Rattle.cs_scanner.specs.Automaton.Counted.{IsAbove}
use Rattle.cs_scanner.specs.Automaton.Meaning.{res}
use Rattle.cs_scanner.specs.Automaton.Places.{InSet}
use Rattle.cs_lex.specs.Reading.File.{File}
use Rattle.cs_lex.specs.Reading.Reading.{IsLexFile}
use Rattle.cs_yacc.specs.Reading.File as tokens

-- the bytes are accepted as a lex file beside each yacc file
abbrev pub IsAcceptedBesideAll : List ℕ → Type 0
IsAcceptedBesideAll lex = (yacc : tokens.File) → (file : File) × IsLexFile lex yacc file

-- the patterns of the lex file that the bytes mean have no more than 16,384 sets of positions
abbrev pub HasFewSets : List ℕ → Type 0
HasFewSets lex = (yacc : tokens.File) (file : File) → tokens.IsFile yacc → IsLexFile lex yacc file → IsAbove (InSet (res file.patterns)) 16384 → ⊥
