-- What may stand between the parts of an action, and signs behind it.
use Rattle.std.specs.Prelude.{◌≡◌, ℕ, ◌+◌, Bool, List, drop, IsTrue}
use Rattle.cs_bytes.specs.Classes.{is_space}
use Rattle.cs_bytes.specs.Places.{front, begins_with}
use Rattle.cs_ctext.specs.Comments.{IsComment}
use Rattle.cs_lex.specs.Layout.Steps.{Walk, Covers}

-- a byte that may stand in a gap, or a closed comment, stands in front
pub data IsSpacing (passes : ℕ → Bool) (text : List ℕ) (size : ℕ) : Type 0 where
  byte : IsTrue (front passes text) → size ≡ 1 → IsSpacing passes text size
  comment : IsComment text size → IsSpacing passes text size

-- The gap in front of the text: such bytes and closed comments, to where none stands.
abbrev pub IsGap : (ℕ → Bool) → List ℕ → ℕ → Type 0
IsGap passes text n = Covers (IsSpacing passes) (λ rest. (k : ℕ) → ¬ IsSpacing passes rest k) text n

-- A gap, which may be empty, and the sign behind it have this size together.
pub record IsSign (passes : ℕ → Bool) (sign : ℕ) (text : List ℕ) (size : ℕ) : Type 0 where
  pub gap : ℕ
  pub is_gap : IsGap passes text gap
  pub signed : IsTrue (begins_with sign (drop gap text))
  pub ends : size ≡ gap + 1

-- how many signs were passed, and how many bytes
pub record SignCount : Type 0 where
  pub count : ℕ
  pub at : ℕ

pub record OneSign (sign : ℕ) (text : List ℕ) (s t : SignCount) : Type 0 where
  pub size : ℕ
  pub signed : IsSign is_space sign (drop s.at text) size
  pub is : t ≡ record { count = s.count + 1; at = s.at + size }

abbrev pub no_signs : SignCount
no_signs = record { count = 0; at = 0 }

-- so many such signs stand in front of the text, with gaps of blanks, newlines and comments before them, over n bytes
abbrev pub AreSigns : ℕ → List ℕ → ℕ → ℕ → Type 0
AreSigns sign text count n = Walk (OneSign sign text) no_signs (record { count = count; at = n })
