-- What a comparison of a list of tokens with the scan of a text answers.
use Rattle.std.specs.Prelude.{◌≡◌, ℕ, Bool, List}
use Rattle.cs_scanner.specs.Automaton.Machine.{patterns_of}
use Rattle.cs_scanner.specs.declared.scanning.scanner.Scanner.{Scanner}
use Rattle.cs_scanner.specs.declared.scanning.comparing.Agreement.{Agreement}
use Rattle.cs_scanner.specs.declared.scanning.comparing.Agreement.TheVariants.{Whole, Differs}
use Rattle.cs_scanner.specs.Scan.Scan.{Scanning, Runs, in_common}

-- what a scanner scans by
abbrev pub scanning : Scanner → Scanning
scanning s = record { patterns = patterns_of s.automaton.now; kinds = s.kinds.now; literals = s.literals.now }

-- The list of tokens and the list that the scan of the text gives, before it ends or stops, have so many in common at their
-- fronts. A text has one scan (`one_scan`, `some_scan`).
abbrev pub IsInCommon : Scanning → List ℕ → List ℕ → ℕ → Type 0
IsInCommon s text tokens count = (given : List ℕ) (whole : Bool) → Runs s text given whole → count ≡ in_common tokens given

-- what is said of a difference
abbrev pub IfDiffers : Agreement → (ℕ → Type 0) → Type 0
IfDiffers Whole P = Unit {0}
IfDiffers (Differs after) P = P after
