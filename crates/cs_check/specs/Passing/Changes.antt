-- What users may change of a manifest that passes: they may exchange texts, and take out negatives.
use Rattle.std.specs.Prelude.{◌≡◌, ◌⊎◌, ℕ, ◌+◌, List, [], ◌∷◌, ◌++◌, length}
use Rattle.std.specs.List.{AllZip}
use Rattle.cs_scanner.specs.Scan.Scan.{Scanning, Scans}
use Rattle.cs_lines.specs.Words.Edits.{EditWords}
use Rattle.cs_lines.specs.Lines.Line.{Counts, Line, TokensLine, TextLine, NegativeLine, EndLine}
use Rattle.cs_check.specs.Passing.Above.{edits}
use Rattle.cs_check.specs.Passing.Faults.{Checked}
use Rattle.cs_check.specs.Passing.Passing.{Passes}
use Rattle.cs_check.specs.Passing.Manifest.{AreLines}

-- ---- texts

-- in place of a text stands one that scans to the tokens to which that scans; each other line stays
abbrev pub IsExchanged : Scanning → Line → Line → Type 0
IsExchanged scanning (TextLine text) l =
    (other : List ℕ) × (l ≡ TextLine other) × ((tokens : List ℕ) → Scans scanning text tokens → Scans scanning other tokens)
IsExchanged scanning k l = l ≡ k

-- the law: a text passes whose lines are those of one that passes, but for other texts
abbrev pub TextsMayChange : Checked → List ℕ → List ℕ → Type 0
TextsMayChange c text other =
    (lines others : List Line) → AreLines text lines → AreLines other others → AllZip (IsExchanged c.scanning) lines others → Passes c text → Passes c other

-- ---- negatives

-- a negative may have another number, and the end line another count of them; each other line stays
abbrev pub IsRenumbered : Line → Line → Type 0
IsRenumbered (NegativeLine n base edit left right at) l = (m : ℕ) × (l ≡ NegativeLine m base edit left right at)
IsRenumbered (EndLine counts) l = (negatives : ℕ) × (l ≡ EndLine (record counts { negatives = negatives }))
IsRenumbered k l = l ≡ k

-- the lines of a negative: its own, its tokens and their text
pub record AreOfNegative (lines : List Line) : Type 0 where
  pub n : ℕ
  pub base : ℕ
  pub edit : EditWords
  pub left : List ℕ
  pub right : List ℕ
  pub at : ℕ
  pub names : List (List ℕ)
  pub text : Line
  pub are : lines ≡ NegativeLine n base edit left right at ∷ TokensLine names ∷ text ∷ []

-- a line that stays, but for its number
pub record IsStaying (lines stays : List Line) : Type 0 where
  pub l : Line
  pub k : Line
  pub was : lines ≡ l ∷ []
  pub is : stays ≡ k ∷ []
  pub renumbered : IsRenumbered l k

-- of these lines those stay: none of the lines of a negative that goes
abbrev pub AreKept : List Line → List Line → Type 0
AreKept lines stays = (AreOfNegative lines × (stays ≡ [])) ⊎ IsStaying lines stays

-- the lines of parts, one part behind the other
abbrev pub laid : List (List Line) → List Line
laid [] = []
laid (part ∷ parts) = part ++ laid parts

-- negatives are numbered from 1, and the end line counts them
pub record AreNumbered (lines : List Line) : Type 0 where
  pub negatives : (above below : List Line) (n base : ℕ) (edit : EditWords) (left right : List ℕ) (at : ℕ) → lines ≡ above ++ NegativeLine n base edit left right at ∷ below → n ≡ length (edits above) + 1
  pub count : (above below : List Line) (counts : Counts) → lines ≡ above ++ EndLine counts ∷ below → counts.negatives ≡ length (edits above)

-- the lines but for some negatives, with the numbers put right
pub record AreFewer (lines others : List Line) : Type 0 where
  pub parts : List (List Line)
  pub stays : List (List Line)
  pub whole : lines ≡ laid parts
  pub rest : others ≡ laid stays
  pub kept : AllZip AreKept parts stays
  pub numbered : AreNumbered others

-- the law: a text passes whose lines are those of one that passes, but for some negatives
abbrev pub NegativesMayGo : Checked → List ℕ → List ℕ → Type 0
NegativesMayGo c text other =
    (lines others : List Line) → AreLines text lines → AreLines other others → AreFewer lines others → Passes c text → Passes c other
