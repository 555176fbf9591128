-- C text up to a line's end: loose text, and the extent of an action, in which braces are counted.
use Rattle.std.specs.Prelude.{ℕ, Bool, ◌==◌, ◌&&◌, ◌||◌, List, IsTrue}
use Rattle.cs_ctext.specs.Comments.{IsOpenComment}
use Rattle.cs_ctext.specs.Blocks.{IsPart, IsBlock}
use Rattle.cs_bytes.specs.Names.{opening_brace}
use Rattle.cs_bytes.specs.Places.{begins_with}
use Rattle.cs_lex.specs.Layout.Steps.{Covers}
use Rattle.cs_bytes.specs.Classes.{is_newline}
use Rattle.cs_bytes.specs.Places.{front_or_end}

-- a newline, and `{` where braces count
abbrev pub ends_part : Bool → ℕ → Bool
ends_part braces b = is_newline b || (braces && (b == opening_brace))

-- A comment, a closed quoted construct or another byte stands in front; where braces count, a whole block in place of a `{`.
-- A `}` is another byte: inside a block it has its partner, and outside it is plain.
pub data IsPiece (braces : Bool) (text : List ℕ) (size : ℕ) : Type 0 where
  part : IsPart (ends_part braces) text size → IsPiece braces text size
  block : IsTrue braces → IsBlock text size → IsPiece braces text size

-- The run goes to the first newline outside comments, closed quoted constructs and blocks, or to the end.
abbrev pub IsCodeRun : Bool → List ℕ → ℕ → Type 0
IsCodeRun braces text n = Covers (IsPiece braces) (λ rest. IsTrue (front_or_end is_newline rest)) text n

-- A comment or, where braces count, a brace opens there and isn't closed.
pub data IsOpen (braces : Bool) (text : List ℕ) : Type 0 where
  open_comment : IsOpenComment text → IsOpen braces text
  open_brace : IsTrue braces → IsTrue (begins_with opening_brace text) → ((n : ℕ) → ¬ IsBlock text n) → IsOpen braces text

-- The run is open: a comment or brace that isn't closed begins behind n bytes of whole pieces.
abbrev pub IsOpenRun : Bool → List ℕ → ℕ → Type 0
IsOpenRun braces text n = Covers (IsPiece braces) (IsOpen braces) text n
