-- Where a search among the matches of a text stands. Working words of proofs.
use Rattle.std.specs.Prelude.{ℕ, ◌↔◌, Bool, IsTrue, true, List, drop}
use Rattle.cs_scanner.specs.Scan.Compared.{scanning}
use Rattle.cs_scanner.specs.Scan.Scan.{Runs, Scanning, Scans}
use Rattle.cs_scanner.specs.declared.scanning.scanner.Scanner.{Scanner}
use Rattle.cs_spell.specs.Texts.Texts.{HasMatch}

-- The rest behind the place scans too, and one of its matches is the piece exactly where one of the text's is.
pub record IsLeftOf (s : Scanning) (rule : ℕ) (piece text rest : List ℕ) : Type 0 where
  pub given : List ℕ
  pub runs : Runs s rest given true
  pub forth : HasMatch s rule piece text → HasMatch s rule piece rest
  pub back : HasMatch s rule piece rest → HasMatch s rule piece text

-- the same of a text that scans to tokens
abbrev pub IsLeft : Scanning → ℕ → List ℕ → List ℕ → ℕ → Type 0
IsLeft s rule piece text at = (tokens : List ℕ) → Scans s text tokens → IsLeftOf s rule piece text (drop at text)

-- where the text scans to tokens, the answer says whether one of its matches is the piece, by the rule
abbrev pub TellsMatch : Scanner → ℕ → List ℕ → List ℕ → Bool → Type 0
TellsMatch scanner rule piece text answer =
    (tokens : List ℕ) → Scans (scanning scanner) text tokens → IsTrue answer ↔ HasMatch (scanning scanner) rule piece text
