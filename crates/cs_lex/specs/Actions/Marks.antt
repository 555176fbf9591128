-- Comments that say what an action gives.
use Rattle.std.specs.Prelude.{◌≡◌, ℕ, ◌-◌, ◌<◌, ◌⊎◌, ◌==◌, ◌&&◌, Bool, false, List, [], length, take, drop, IsTrue, codes}
use Rattle.std.specs.List.{prefix_len}
use Rattle.cs_ctext.specs.Comments.{IsComment, IsOpenComment}
use Rattle.cs_ctext.specs.Blocks.{IsPart}
use Rattle.cs_ctext.specs.Literals.{IsLiteral}
use Rattle.cs_bytes.specs.Classes.{is_blank}
use Rattle.cs_bytes.specs.Places.{front}
use Rattle.cs_lex.specs.Layout.Steps.{Covers}
use Rattle.cs_yacc.specs.Items.Bytes.{begins_name, is_name_byte}

pub data ActionMark : Type 0 where
  skip : ActionMark
  word : List ℕ → ActionMark
  literal : ℕ → ActionMark

-- a yacc name fills the text
abbrev pub is_name : List ℕ → Bool
is_name text = front begins_name text && (prefix_len is_name_byte text == length text)

-- A yacc name or a literal fills the text.
pub data IsSpelled (text : List ℕ) (m : ActionMark) : Type 0 where
  named : IsTrue (is_name text) → m ≡ word text → IsSpelled text m
  quoted : (byte : ℕ) → IsLiteral text byte (length text) → m ≡ literal byte → IsSpelled text m

-- how many blanks stand behind `/*@token`
abbrev pub mark_blanks : List ℕ → ℕ
mark_blanks comment = prefix_len is_blank (drop 8 comment)

-- what stands behind these blanks, up to `*/`
abbrev pub mark_text : List ℕ → List ℕ
mark_text comment = let rest = drop (mark_blanks comment) (drop 8 comment) in take (length rest - 2) rest

-- The bytes of a comment are exactly a mark: `/*@skip*/`, or `/*@token`, blanks, a yacc name or literal, `*/`.
pub data IsMark (comment : List ℕ) (m : ActionMark) : Type 0 where
  skips : comment ≡ codes "/*@skip*/" → m ≡ skip → IsMark comment m
  gives : take 8 comment ≡ codes "/*@token" → 0 < mark_blanks comment → IsSpelled (mark_text comment) m → IsMark comment m

-- a comment that is a mark begins the text
abbrev pub BeginsMark : List ℕ → ActionMark → Type 0
BeginsMark text m = (size : ℕ) × IsComment text size × IsMark (take size text) m

-- a comment, closed quoted construct or other byte stands in front, and no mark
abbrev pub IsUnmarked : List ℕ → ℕ → Type 0
IsUnmarked text n = IsPart (λ b. false) text n × ((m : ActionMark) → ¬ BeginsMark text m)

-- the first mark of the text
abbrev pub HasMark : List ℕ → ActionMark → Type 0
HasMark text m = (n : ℕ) × Covers IsUnmarked (λ rest. BeginsMark rest m) text n

-- the text has no mark
abbrev pub HasNoMark : List ℕ → Type 0
HasNoMark text = (n : ℕ) × Covers IsUnmarked (λ rest. (rest ≡ []) ⊎ IsOpenComment rest) text n
