-- How the scan of a text goes on, match by match.
use Rattle.std.specs.Prelude.{◌≡◌, ℕ, ◌+◌, ◌-◌, ◌≤◌, Bool, List, [], ◌∷◌, ◌++◌, Option, Some, None, length}
use Rattle.cs_scanner.specs.declared.scanning.comparing.GivenOrStop.{GivenOrStop}
use Rattle.cs_scanner.specs.declared.scanning.comparing.GivenOrStop.TheVariants as gives
use Rattle.cs_scanner.specs.declared.scanning.comparing.Next.{Next}
use Rattle.cs_scanner.specs.declared.scanning.comparing.Next.TheVariants as nexts
use Rattle.cs_scanner.specs.Scan.Scan.{Scanning, Gives, GivesNone, Runs, StopsAt}

-- the tokens that a match gives
abbrev pub tokens_of : GivenOrStop → Option (List ℕ)
tokens_of gives.Nothing = Some []
tokens_of (gives.Token token) = Some (token ∷ [])
tokens_of gives.Stop = None

-- what the scan does at the front of the text
abbrev pub IsNext : Scanning → List ℕ → Next → Type 0
IsNext s text (nexts.Pass size) = Gives s text size []
IsNext s text (nexts.Give size token) = Gives s text size (token ∷ [])
IsNext s text nexts.Stop = GivesNone s text

-- the scan of the text gives these tokens first, and then those of the scan of the rest
pub record IsBegunBy (s : Scanning) (text first rest : List ℕ) : Type 0 where
  pub forth : (given : List ℕ) (whole : Bool) → Runs s text given whole → (later : List ℕ) × (given ≡ first ++ later) × Runs s rest later whole
  pub back : (later : List ℕ) (whole : Bool) → Runs s rest later whole → Runs s text (first ++ later) whole

-- The scan of the text has given these tokens, and the rest is left: it stops where that of the rest does.
pub record IsPassed (s : Scanning) (text given rest : List ℕ) : Type 0 where
  pub within : length rest ≤ length text
  pub begun : IsBegunBy s text given rest
  pub stops : (at : ℕ) → StopsAt s rest at → StopsAt s text (length text - length rest + at)
