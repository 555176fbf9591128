-- Comments of C: `/*` through the next `*/`, and `//` to the line's end (ISO C, comments).
use Rattle.std.specs.Prelude.{◌≡◌, ℕ, ◌+◌, ◌⊎◌, Bool, ◌||◌, List, drop, codes}
use Rattle.cs_bytes.specs.Names.{star, slash}
use Rattle.cs_bytes.specs.Places.{BeginsWith, IsFirstPair, begins_with_two, line_len}

-- The text begins with `/*`, and the first `*/` behind it stands behind `inside` bytes.
pub record IsClosedComment (text : List ℕ) (size : ℕ) : Type 0 where
  pub inside : ℕ
  pub opened : BeginsWith (codes "/*") text
  pub closed : IsFirstPair star slash (drop 2 text) inside
  pub ends : size ≡ inside + 4

-- The text begins with `//`, and goes on to the next newline, which isn't part of the comment, or to the end.
pub record IsLineComment (text : List ℕ) (size : ℕ) : Type 0 where
  pub opened : BeginsWith (codes "//") text
  pub ends : size ≡ line_len (drop 2 text) + 2

-- a comment begins the text, and has this size
abbrev pub IsComment : List ℕ → ℕ → Type 0
IsComment text size = IsClosedComment text size ⊎ IsLineComment text size

-- the text begins with what opens a comment
abbrev pub OpensComment : List ℕ → Type 0
OpensComment text = BeginsWith (codes "/*") text ⊎ BeginsWith (codes "//") text

-- the same as a test
abbrev pub opens_comment : List ℕ → Bool
opens_comment text = begins_with_two slash star text || begins_with_two slash slash text

-- the text opens a comment that isn't closed
abbrev pub IsOpenComment : List ℕ → Type 0
IsOpenComment text = OpensComment text × ((size : ℕ) → ¬ IsComment text size)
