-- Which bytes are accepted as a yacc file, what file they mean, and why bytes are refused.
use Rattle.std.specs.Prelude.{◌≡◌, ℕ, List, length, drop, Result, Ok, Err}
use Rattle.cs_yacc.specs.declared.reading.error.YaccError.{YaccError}
use Rattle.cs_yacc.specs.declared.reading.error.YaccError.TheVariants.{BadItem, Unended, UnknownDirective, Syntax, SecondStart, TokenOnLeft, Undefined, StartNotNonterminal, Limit, Memory}
use Rattle.cs_yacc.specs.Items.Items.{Placed, items_of, Reads, IsOpen, BeginsUnknown, BeginsNeither}
use Rattle.cs_yacc.specs.Items.Stops.{StopsThere}
use Rattle.cs_yacc.specs.Items.Table.{IsTaken, IsStuck}
use Rattle.cs_yacc.specs.Reading.Meaning.{outcome}
use Rattle.cs_yacc.specs.Reading.File.{File}

-- The bytes are read into items that the table takes, and these give this.
pub record Gives (bytes : List ℕ) (given : Result File YaccError) : Type 0 where
  pub items : List Placed
  pub read : Reads bytes items
  pub taken : IsTaken (items_of items)
  pub is : outcome items ≡ given

-- The bytes are accepted, and mean this file.
unfoldable pub IsYaccFile : List ℕ → File → Type 0
IsYaccFile bytes file = Gives bytes (Ok file)

-- the bytes are read into items that the table doesn't take, for the offset
abbrev pub IsStuckThere : List ℕ → ℕ → Type 0
IsStuckThere bytes at = (items : List Placed) × Reads bytes items × IsStuck (length bytes) items at

-- The bytes are refused with this error. Want of memory refuses nothing.
unfoldable pub Refuses : YaccError → List ℕ → Type 0
Refuses (BadItem at) bytes = StopsThere bytes at × BeginsNeither (drop at bytes)
Refuses (Unended at) bytes = StopsThere bytes at × IsOpen (drop at bytes)
Refuses (UnknownDirective at) bytes = StopsThere bytes at × BeginsUnknown (drop at bytes)
Refuses (Syntax at) bytes = IsStuckThere bytes at
Refuses (SecondStart at) bytes = Gives bytes (Err (SecondStart at))
Refuses (TokenOnLeft at) bytes = Gives bytes (Err (TokenOnLeft at))
Refuses (Undefined at) bytes = Gives bytes (Err (Undefined at))
Refuses (StartNotNonterminal at) bytes = Gives bytes (Err (StartNotNonterminal at))
Refuses (Limit which found most) bytes = Gives bytes (Err (Limit which found most))
Refuses Memory bytes = ⊥

-- What the reader answers: the file of accepted bytes, or why they are refused. Memory may run out.
abbrev pub Answers : List ℕ → Result File YaccError → Type 0
Answers bytes (Ok file) = IsYaccFile bytes file
Answers bytes (Err Memory) = Unit {0}
Answers bytes (Err error) = Refuses error bytes

-- the bytes are accepted
abbrev pub IsAccepted : List ℕ → Type 0
IsAccepted bytes = (file : File) × IsYaccFile bytes file

-- the bytes are refused
abbrev pub IsRefused : List ℕ → Type 0
IsRefused bytes = (error : YaccError) × Refuses error bytes
